use Rattle.std.proofs.Common.{take}
use Rattle.alias_paths.specs.inner.Marking.{AddsMarks, IsMarkedBy}
use Rattle.alias_nears.specs.inner.Contents.{AreMarkedInBoth}
use Rattle.alias_paths.proofs.Adding.{IsIt}
use Rattle.alias_nears.proofs.kept.both.Given as goal

abbrev pub invariant-loop-number : goal.invariant-loop-number
invariant-loop-number l = AddsMarks l.initial.both (IsMarkedBy (take l.number-index l.listed) (IsIt (AreMarkedInBoth l.first l.second))) l.both
