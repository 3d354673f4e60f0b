use Rattle.std.proofs.Common.{sym, subst}
use Rattle.flat_core.specs.System.{System}
use Rattle.alias_nears.specs.inner.Beginning.{NoneIsNil}
use Rattle.last_use.proofs.trial.nears_of.Goals as goal

pub near_more-requires-clause-none_is_nil : goal.near_more-requires-clause-none_is_nil
near_more-requires-clause-none_is_nil c = subst (λ (s : System). NoneIsNil s) (sym c.requires.graph) (c.requires.none_is_nil c.if-none_is_nil.true)
