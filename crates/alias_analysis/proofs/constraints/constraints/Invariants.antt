use Rattle.alias_nears.specs.inner.Constraints.{IsAskedFor}
use Rattle.alias_paths.specs.inner.Pairs.{Adds}
use Rattle.alias_nears.proofs.Constraining.{Asks}
use Rattle.alias_analysis.proofs.constraints.constraints.Given as goal

abbrev pub invariant-loop-place : goal.invariant-loop-place
invariant-loop-place l = Adds l.initial.pairs (IsAskedFor l.flat l.set (Asks l.flat l.set) l.place) l.pairs
