-- Truth values in words of 64 bits, and the words of an agenda.
use Rattle.std.specs.Prelude.{◌≡◌, ◌≢◌, ◌==◌, ℕ, ◌+◌, ◌*◌, ◌/◌, ◌%◌, ◌<◌, ◌≤◌, Bool, true, false, List, map, length, slice_index}
use Rattle.std.specs.Int.{bit_at}
use Rattle.std.specs.List.{range_with_len}

-- whether the bit of a place is set
abbrev pub has_bit : List ℕ → ℕ → Bool
has_bit words place = bit_at (slice_index words (place / 64)) (place % 64) == 1

-- the bits of so many places
abbrev pub marks_of : ℕ → List ℕ → List Bool
marks_of count words = map (has_bit words) (range_with_len 0 count)

-- the bit of this place is this one now, and nothing else has changed
pub record HasSetBit (old new : List ℕ) (place : ℕ) (bit : Bool) : Type 0 where
  pub room : length new ≡ length old
  pub here : has_bit new place ≡ bit
  pub others : (other : ℕ) → other ≢ place → has_bit new other ≡ has_bit old other
  pub words : (k : ℕ) → k ≢ place / 64 → slice_index new k ≡ slice_index old k

-- the bit of this place is taken from the words, and that of its word from their summary where the word has no other
pub record HasTaken (words new summary new_summary : List ℕ) (place : ℕ) : Type 0 where
  pub cleared : HasSetBit words new place false
  pub last : slice_index new (place / 64) ≡ 0 → HasSetBit summary new_summary (place / 64) false
  pub more : slice_index new (place / 64) ≢ 0 → new_summary ≡ summary

-- the first set bit of word k
pub record IsLeastIn (words : List ℕ) (k place : ℕ) : Type 0 where
  pub inside : place / 64 ≡ k
  pub here : has_bit words place ≡ true
  pub least : (other : ℕ) → k * 64 ≤ other → other < place → has_bit words other ≡ false

-- Words with a bit for each of so many places, and a summary with a bit for each word, which is set where the word has one. No word of the
-- summary before the first has a bit.
pub record AreMarks (count : ℕ) (words summary : List ℕ) (first : ℕ) : Type 0 where
  pub words_room : length words ≡ count / 64 + 1
  pub summary_room : length summary ≡ count / 64 / 64 + 1
  pub none_after : (place : ℕ) → count ≤ place → has_bit words place ≡ false
  pub summed : (place : ℕ) → has_bit words place ≡ true → has_bit summary (place / 64) ≡ true
  pub filled : (k : ℕ) → has_bit summary k ≡ true → slice_index words k ≢ 0
  pub first_there : first ≤ length summary
  pub none_before : (k : ℕ) → k < first → slice_index summary k ≡ 0
