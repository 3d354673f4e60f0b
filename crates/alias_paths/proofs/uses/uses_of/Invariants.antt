use Rattle.alias_paths.specs.inner.Kept.{HasUsesBelow}
use Rattle.alias_paths.proofs.uses.uses_of.Given as goal

abbrev pub invariant-loop-number : goal.invariant-loop-number
invariant-loop-number l = HasUsesBelow l.flat l.number l.uses
