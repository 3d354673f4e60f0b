use Rattle.std.proofs.Common.{take}
use Rattle.alias_paths.specs.inner.Marking.{AddsMarks, IsMarkedBy}
use Rattle.alias_paths.proofs.Sharers.{MarksStore}
use Rattle.alias_paths.proofs.sharing.stores_of.Given as goal

abbrev pub invariant-loop-number : goal.invariant-loop-number
invariant-loop-number l = AddsMarks l.initial.stores (IsMarkedBy (take l.number-index l.listed) (MarksStore l.count)) l.stores
