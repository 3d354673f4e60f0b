use Rattle.alias_paths.specs.inner.Flows.{IsMarkedPair}
use Rattle.alias_paths.specs.inner.Pairs.{Adds, IsKeyBelow}
use Rattle.alias_paths.proofs.sharing.push_marked.Given as goal

abbrev pub invariant-loop-index : goal.invariant-loop-index
invariant-loop-index l = Adds l.initial.pairs (IsKeyBelow (λ a b. b) l.index (IsMarkedPair l.number l.marks)) l.pairs
