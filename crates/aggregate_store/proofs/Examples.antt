-- Worked rows of the definitions.
use Rattle.std.proofs.Common.{◌≡◌, true, false, [], ◌∷◌, refl}
use Rattle.aggregate_store.specs.inner.Stored.{counted, is_listed}

grows : counted (5 ∷ 7 ∷ []) 1 3 ≡ 5 ∷ 10 ∷ []
grows = refl

stands : counted (18446744073709551614 ∷ []) 0 4 ≡ 18446744073709551615 ∷ []
stands = refl

listed : is_listed (3 ∷ 1 ∷ []) 1 ≡ true
listed = refl

not_listed : is_listed (3 ∷ 1 ∷ []) 2 ≡ false
not_listed = refl
