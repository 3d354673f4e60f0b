-- Where the handles of a list stand in it.
use Rattle.std.specs.Prelude.{◌≡◌, ℕ, ◌<◌, List, length, IsTrue, slice_index}
use Rattle.aggregate_store.specs.inner.Stored.{is_listed}

-- this slot's note says where its handle stands
pub record IsNoted (cells notes : List ℕ) (slot : ℕ) : Type 0 where
  pub inside : slice_index notes slot < length cells
  pub here : slice_index cells (slice_index notes slot) ≡ slot

-- each handle that is listed and has a note stands where it says
abbrev pub AreNoted : List ℕ → List ℕ → Type 0
AreNoted cells notes = (slot : ℕ) → slot < length notes → IsTrue (is_listed cells slot) → IsNoted cells notes slot
