use Rattle.alias_nears.specs.inner.Constraints.{IsMarkedBefore}
use Rattle.alias_paths.specs.inner.Pairs.{Adds, IsKeyBelow}
use Rattle.alias_nears.proofs.Constraining.{first_key}
use Rattle.alias_nears.proofs.steps.push_marked.Given as goal

abbrev pub invariant-loop-index : goal.invariant-loop-index
invariant-loop-index l = Adds l.initial.pairs (IsKeyBelow first_key l.index (IsMarkedBefore l.marks l.update)) l.pairs
