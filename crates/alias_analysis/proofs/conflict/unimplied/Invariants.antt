use Rattle.std.proofs.Common.{take}
use Rattle.alias_paths.specs.inner.Marking.{AddsMarks, IsMarkedBy}
use Rattle.alias_nears.specs.inner.Contents.{IsMarkedUnimplied}
use Rattle.alias_paths.proofs.Adding.{IsIt}
use Rattle.alias_analysis.proofs.conflict.unimplied.Given as goal

abbrev pub invariant-loop-number : goal.invariant-loop-number
invariant-loop-number l = AddsMarks l.initial.unimplied (IsMarkedBy (take l.number-index l.listed) (IsIt (IsMarkedUnimplied l.flat l.update l.marked))) l.unimplied
