-- How many bytes the calls of a world in memory read or write at most.
use Rattle.std.specs.Prelude.{ℕ, ◌<◌, ◌%◌, List, All, length, slice_index}

-- There are sizes, and each is one byte at least.
pub record AreSizes (sizes : List ℕ) : Type 0 where
  pub some : 0 < length sizes
  pub each : All (λ size. 0 < size) sizes

-- the size for the call of this number: they come in turn
abbrev pub size_at : List ℕ → ℕ → ℕ
size_at sizes call = slice_index sizes (call % length sizes)
