use Rattle.std.proofs.Common.{take}
use Rattle.alias_paths.specs.inner.Marking.{AddsMarks, IsMarkedBy}
use Rattle.alias_paths.proofs.Adding.{MarksFirst}
use Rattle.alias_paths.proofs.numbers.firsts.Given as goal

abbrev pub invariant-loop-first : goal.invariant-loop-first
invariant-loop-first l = AddsMarks l.initial.firsts (IsMarkedBy (take l.first-index l.pairs) (MarksFirst l.seconds)) l.firsts
