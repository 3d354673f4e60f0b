use Rattle.std.proofs.Common.{ℕ, ◌<◌, length, take}
use Rattle.std.specs.Prelude.{IsTrue}
use Rattle.aggregate_store.specs.inner.Slots.{IsNoted}
use Rattle.aggregate_store.specs.inner.Stored.{is_listed}
use Rattle.aggregate_store.proofs.slots.note_places.Given as goal

abbrev pub invariant-loop-place : goal.invariant-loop-place
invariant-loop-place l = (slot : ℕ) → slot < length l.notes → IsTrue (is_listed (take l.place l.cells) slot) → IsNoted l.cells l.notes slot
