use Rattle.std.proofs.Common.{take}
use Rattle.alias_paths.specs.inner.Marking.{AddsMarks, IsMarkedBy}
use Rattle.alias_paths.specs.inner.Contents.{IsReachedOrigin}
use Rattle.alias_paths.proofs.Adding.{IsIt}
use Rattle.alias_paths.proofs.roots.origins.Given as goal

abbrev pub invariant-loop-number : goal.invariant-loop-number
invariant-loop-number l = AddsMarks l.initial.origins (IsMarkedBy (take l.number-index l.listed) (IsIt (IsReachedOrigin l.flat l.set l.marked))) l.origins
