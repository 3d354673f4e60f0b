use Rattle.alias_nears.specs.inner.Constraints.{IsNeeded}
use Rattle.alias_paths.specs.inner.Pairs.{Adds, IsKeyBelow}
use Rattle.alias_nears.proofs.Constraining.{second_key}
use Rattle.alias_nears.proofs.steps.push_needed.Given as goal

abbrev pub invariant-loop-number : goal.invariant-loop-number
invariant-loop-number l = Adds l.initial.pairs (IsKeyBelow second_key l.number (IsNeeded l.flat)) l.pairs
