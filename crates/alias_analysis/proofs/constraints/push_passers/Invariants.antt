use Rattle.std.proofs.Common.{take}
use Rattle.alias_nears.specs.inner.Constraints.{PassesMarked}
use Rattle.alias_paths.specs.inner.Pairs.{Adds, IsGiven}
use Rattle.alias_nears.proofs.Constraining.{GivesTaker}
use Rattle.alias_analysis.proofs.constraints.push_passers.Given as goal

abbrev pub invariant-loop-variable : goal.invariant-loop-variable
invariant-loop-variable l = Adds l.initial.pairs (IsGiven (take l.variable-index l.passed) (GivesTaker l.marks l.update (PassesMarked l.flat l.marks l.update))) l.pairs
