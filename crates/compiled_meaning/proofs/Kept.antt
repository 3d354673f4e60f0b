-- One system is compiled at most.
use Rattle.std.proofs.Common.{sym, subst}
use Rattle.flat_core.specs.System.{System}
use Rattle.flat_simplify.specs.Simplified.{IsSimplified}
use Rattle.flat_simplify.proofs.One.{one_simplified}
use Rattle.source_rules.proofs.LawLemmas.{one_system}
use Rattle.source_rules.proofs.LawLemmas as reader
use Rattle.compiled_meaning.specs.inner.Laws.{OneIsCompiled, RefusedCompilesNone}

pub one_is_compiled : OneIsCompiled
one_is_compiled source items others u v here there =
    let one = one_system source items others here.flat there.flat here.spells there.spells in
    (one.0, one_simplified here.flat u v here.simplified (subst (λ (f : System). IsSimplified f v) (sym one.1) there.simplified))

pub refused_compiles_none : RefusedCompilesNone
refused_compiles_none source e items u refused c = reader.refused_spells_none source e items c.flat refused.0 refused.1 c.spells
