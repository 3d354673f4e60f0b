use Rattle.std.proofs.Common.{take}
use Rattle.alias_paths.specs.inner.Marking.{AddsMarks, IsMarkedBy}
use Rattle.alias_paths.proofs.Adding.{MarksSecond}
use Rattle.alias_paths.proofs.numbers.mark_seconds.Given as goal

abbrev pub invariant-loop-first : goal.invariant-loop-first
invariant-loop-first l = AddsMarks l.initial.marked (IsMarkedBy (take l.first-index l.pairs) (MarksSecond l.firsts)) l.marked
