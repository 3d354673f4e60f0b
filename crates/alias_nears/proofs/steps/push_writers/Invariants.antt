use Rattle.std.proofs.Common.{take}
use Rattle.alias_nears.specs.inner.Constraints.{WritesMarked}
use Rattle.alias_paths.specs.inner.Pairs.{Adds, IsGiven}
use Rattle.alias_nears.proofs.Constraining.{GivesTaker}
use Rattle.alias_nears.proofs.steps.push_writers.Given as goal

abbrev pub invariant-loop-variable : goal.invariant-loop-variable
invariant-loop-variable l = Adds l.initial.pairs (IsGiven (take l.variable-index l.written) (GivesTaker l.marks l.update (WritesMarked l.marks l.update))) l.pairs
