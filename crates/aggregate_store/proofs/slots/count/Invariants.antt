use Rattle.std.proofs.Common.{◌≡◌, ◌+◌, ◌≤◌, drop}
use Rattle.aggregate_store.proofs.Cells.{count_of}
use Rattle.aggregate_store.proofs.slots.count.Given as goal

abbrev pub invariant-loop-slot : goal.invariant-loop-slot
invariant-loop-slot l = (l.count + count_of (drop l.slot-index l.slots) ≡ count_of l.slots) × (l.count ≤ l.slot-index)
