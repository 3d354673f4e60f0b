use Rattle.std.proofs.Common.{take}
use Rattle.alias_paths.specs.inner.Marking.{AddsMarks, IsMarkedBy}
use Rattle.alias_paths.specs.inner.Flows.{HasStoreAt}
use Rattle.alias_paths.proofs.sharing.with_stores.Given as goal

abbrev pub invariant-loop-number : goal.invariant-loop-number
invariant-loop-number l = AddsMarks l.initial.variables (IsMarkedBy (take l.number-index l.listed) (HasStoreAt l.count)) l.variables
