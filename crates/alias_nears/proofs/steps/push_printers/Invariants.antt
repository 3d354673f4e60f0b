use Rattle.alias_nears.specs.inner.Constraints.{IsPrintedBefore}
use Rattle.alias_paths.specs.inner.Pairs.{Adds, IsKeyBelow}
use Rattle.alias_nears.proofs.Constraining.{printer_key}
use Rattle.alias_nears.proofs.steps.push_printers.Given as goal

abbrev pub invariant-loop-place : goal.invariant-loop-place
invariant-loop-place l = Adds l.initial.pairs (IsKeyBelow (printer_key l.flat) l.place (IsPrintedBefore l.flat l.marks l.update)) l.pairs
