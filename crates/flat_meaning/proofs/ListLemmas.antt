-- Elements of lists, by their places, and of first ones.
use Rattle.std.proofs.Common.{◌≡◌, ℕ, zero, suc, ◌<◌, List, [], ◌∷◌, length, take, Some, refl, arith}
use Rattle.std.specs.Prelude.{slice_get}
use Rattle.std.specs.List.{Contains}
use Rattle.flat_core.proofs.Members.{contains_tail}

-- the element at a place of a list
pub at_place : {A : Type 0} (xs : List A) (k : ℕ) → k < length xs → (x : A) × (slice_get xs k ≡ Some x)
at_place [] k lt = absurd (omega arith)
at_place (x ∷ xs) zero lt = (x, refl)
at_place (x ∷ xs) (suc k) lt = at_place xs k (omega arith)

-- the first elements are elements
pub from_take : (n : ℕ) (xs : List ℕ) (t : ℕ) → Contains (take n xs) t → Contains xs t
from_take zero [] t c = c
from_take zero (x ∷ xs) t (k, lt, is) = absurd (omega arith)
from_take (suc n) [] t c = c
from_take (suc n) (x ∷ xs) t (zero, lt, is) = (0, omega arith, is)
from_take (suc n) (x ∷ xs) t (suc k, lt, is) = contains_tail x xs t (from_take n xs t (k, omega arith, is))
