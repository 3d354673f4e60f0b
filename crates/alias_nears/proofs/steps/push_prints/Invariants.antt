use Rattle.alias_nears.specs.inner.Constraints.{IsPrintOf}
use Rattle.alias_paths.specs.inner.Pairs.{Adds, IsKeyBelow}
use Rattle.alias_nears.proofs.Constraining.{print_key}
use Rattle.alias_nears.proofs.steps.push_prints.Given as goal

abbrev pub invariant-loop-place : goal.invariant-loop-place
invariant-loop-place l = Adds l.initial.pairs (IsKeyBelow (print_key l.flat) l.place (IsPrintOf l.flat)) l.pairs
