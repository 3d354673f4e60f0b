-- The first of some places, tests of lists, and lists that are walked through.
use Rattle.std.proofs.Common.{◌≡◌, ◌+◌, Bool, ◌||◌, List, [], ◌∷◌, ◌++◌, map, Some, None, refl, ap}
use Rattle.std.specs.List.{list_any}
use Rattle.tsl_value.specs.declared.place.Place.{Place}
use Rattle.name_check.specs.Faults.{first}

-- where the front has no place, the first is that of the rest
pub first_after : (xs ys : List Place) → first xs ≡ None → first (xs ++ ys) ≡ first ys
first_after [] ys h = refl
first_after (x ∷ xs) ys h = cc

-- the first place of the front is the first of all
pub first_of_front : (xs ys : List Place) (p : Place) → first xs ≡ Some p → first (xs ++ ys) ≡ Some p
first_of_front [] ys p h = cc
first_of_front (x ∷ xs) ys p h = h

pub empty_without_first : (xs : List Place) → first xs ≡ None → xs ≡ []
empty_without_first [] h = refl
empty_without_first (x ∷ xs) h = cc

-- a test of what the items are mapped to
pub list_any-map : {A B : Type 0} (p : B → Bool) (f : A → B) (xs : List A) → list_any p (map f xs) ≡ list_any (λ x. p (f x)) xs
list_any-map p f [] = refl
list_any-map p f (x ∷ xs) = ap (λ b. p (f x) || b) (list_any-map p f xs)
