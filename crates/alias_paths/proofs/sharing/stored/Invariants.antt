use Rattle.std.proofs.Common.{take}
use Rattle.alias_paths.specs.inner.Marking.{AddsMarks, IsMarkedBy}
use Rattle.alias_paths.proofs.Sharers.{MarksVariable}
use Rattle.alias_paths.proofs.sharing.stored.Given as goal

abbrev pub invariant-loop-variable : goal.invariant-loop-variable
invariant-loop-variable l = AddsMarks l.initial.stored (IsMarkedBy (take l.variable-index l.lasts) MarksVariable) l.stored
