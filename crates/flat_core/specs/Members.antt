-- Membership in a list of numbers.
use Rattle.std.specs.Prelude.{◌≡◌, ◌==◌, ℕ, ◌<◌, ◌≤◌, Bool, List, Result, Ok, Err, length, slice_index}
use Rattle.std.specs.List.{list_any}

abbrev pub is_in : List ℕ → ℕ → Bool
is_in xs i = list_any (λ j. j == i) xs

-- where i is in a list, or else a place such that smaller numbers stand before it and greater ones from it on
abbrev pub IsPlace : List ℕ → ℕ → Result ℕ ℕ → Type 0
IsPlace xs i (Ok k) = (k < length xs) × (slice_index xs k ≡ i)
IsPlace xs i (Err k) = (k ≤ length xs) × ((j : ℕ) → j < k → slice_index xs j < i) × ((j : ℕ) → k ≤ j → j < length xs → i < slice_index xs j)
