-- A list from a place on.
use Rattle.std.proofs.Common.{◌≡◌, ℕ, zero, suc, ◌+◌, List, [], ◌∷◌, drop, Some, ap, ◌∙◌, arith}
use Rattle.std.specs.Prelude.{slice_get}
use Rattle.std.proofs.lemmas.Option.{same_Some}

pub drop-get : {A : Type 0} (xs : List A) (k : ℕ) (x : A) → slice_get xs k ≡ Some x → drop k xs ≡ x ∷ drop (k + 1) xs
drop-get [] k x is = absurd (cc)
drop-get (y ∷ xs) zero x is = ap (λ z. z ∷ xs) (same_Some y x is)
drop-get (y ∷ xs) (suc k) x is = let same : suc (k + 1) ≡ suc k + 1 = omega arith in drop-get xs k x is ∙ ap (λ n. x ∷ drop n (y ∷ xs)) same
