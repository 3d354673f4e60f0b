use Rattle.std.proofs.Common.{◌≡◌, length}
use Rattle.aggregate_store.specs.inner.Stored.{is_listed}
use Rattle.aggregate_store.proofs.Cells.{Swept}
use Rattle.aggregate_store.proofs.slots.drop_others.Given as goal

abbrev pub invariant-loop-place : goal.invariant-loop-place
invariant-loop-place l = Swept l.fn.slots.items (is_listed l.cells) l.place l.slots.items × (length l.slots.items ≡ length l.fn.slots.items)
