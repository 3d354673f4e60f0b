-- Sets of numbers as bits in words of 64.
use Rattle.std.specs.Prelude.{◌≡◌, ℕ, ◌/◌, ◌%◌, ◌<◌, ◌≤◌, ◌==◌, ◌⊎◌, Bool, List, length, slice_index, IsTrue, IsFalse}
use Rattle.std.specs.Int.{bit_at}

-- whether a number is in a set
unfoldable pub has : List ℕ → ℕ → Bool
has words x = bit_at (slice_index words (x / 64)) (x % 64) == 1

-- what is left where just that is kept which is in one of two others
pub record AreKeptIn (old first second new : List ℕ) : Type 0 where
  pub kept : (x : ℕ) → IsTrue (has new x) → IsTrue (has old x)
  pub from : (x : ℕ) → IsTrue (has new x) → IsTrue (has first x) ⊎ IsTrue (has second x)
  pub gone : (x : ℕ) → IsTrue (has old x) → IsFalse (has new x) → IsFalse (has first x)

-- the last number of a set before another
pub record IsLastBefore (words : List ℕ) (end x : ℕ) : Type 0 where
  pub before : x < end
  pub there : IsTrue (has words x)
  pub last : (y : ℕ) → x < y → y < end → IsFalse (has words y)

-- the first so many numbers of a list are added, as far as there is room
pub record AreAdded (numbers old new : List ℕ) (n : ℕ) : Type 0 where
  pub within : n ≤ length numbers
  pub room : length new ≡ length old
  pub kept : (x : ℕ) → IsTrue (has old x) → IsTrue (has new x)
  pub there : (k : ℕ) → k < n → slice_index numbers k / 64 < length old → IsTrue (has new (slice_index numbers k))
  pub from : (x : ℕ) → IsTrue (has new x) → IsTrue (has old x) ⊎ ((k : ℕ) × (k < n) × (slice_index numbers k ≡ x))
