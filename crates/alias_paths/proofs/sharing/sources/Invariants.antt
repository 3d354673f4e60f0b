use Rattle.std.proofs.Common.{take}
use Rattle.alias_paths.specs.inner.Marking.{AddsMarks, IsMarkedBy}
use Rattle.alias_paths.specs.inner.Flows.{IsSource}
use Rattle.alias_paths.proofs.Adding.{IsIt}
use Rattle.alias_paths.proofs.sharing.sources.Given as goal

abbrev pub invariant-loop-number : goal.invariant-loop-number
invariant-loop-number l = AddsMarks l.initial.sources (IsMarkedBy (take l.number-index l.listed) (IsIt (IsSource l.flat l.set l.marked))) l.sources
