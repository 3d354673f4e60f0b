-- Sizes, in turn.
use Rattle.std.proofs.Common.{◌≡◌, ℕ, ◌<◌, ◌%◌, List, [], ◌∷◌, length, get_or, ap}
use Rattle.std.proofs.Math.Nat.{mod-lt, mod-one}
use Rattle.std.proofs.lemmas.List.Elements.{All-get_or}
use Rattle.tsl_world.specs.inner.Sizes.{AreSizes, size_at}

-- each is one byte at least
pub size_some : (sizes : List ℕ) (call : ℕ) → AreSizes sizes → 0 < size_at sizes call
size_some sizes call are = All-get_or (λ size. 0 < size) sizes (call % length sizes) 0 (mod-lt call are.some) are.each

-- one size is that of each call
pub size_of_one : (size call : ℕ) → size_at (size ∷ []) call ≡ size
size_of_one size call = ap (λ (k : ℕ). get_or (size ∷ []) k 0) (mod-one call)
