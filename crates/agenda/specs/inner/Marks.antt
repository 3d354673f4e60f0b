-- What of an agenda a caller sees: for each place whether it is marked.
use Rattle.std.specs.Prelude.{ℕ, ◌<◌, Bool, false, List, IsTrue, IsFalse, slice_index_or}

-- no place after the last is marked
abbrev pub has_mark : List Bool → ℕ → Bool
has_mark marks place = slice_index_or marks place false

abbrev pub HasNoMark : List Bool → Type 0
HasNoMark marks = (place : ℕ) → IsFalse (has_mark marks place)

-- this place is marked, and none before it
pub record IsLeastMark (marks : List Bool) (place : ℕ) : Type 0 where
  pub marked : IsTrue (has_mark marks place)
  pub least : (other : ℕ) → other < place → IsFalse (has_mark marks other)
