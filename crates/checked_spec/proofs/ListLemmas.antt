-- Lists of faults that are empty, and what holds of all elements of lists.
use Rattle.std.proofs.Common.{◌≡◌, ◌+◌, Bool, true, false, cond, List, [], ◌∷◌, ◌++◌, map, filter, Contains, refl, sym, ap, ◌∙◌, inl, inr}
use Rattle.std.specs.List.{AllByRecursion, flat_map}
use Rattle.tsl_value.proofs.Lists.{none_in_nil, cons_cases, append_empty}

pub flat_empty : {A B : Type 0} (f : A → List B) (xs : List A) → flat_map f xs ≡ [] → (x : A) → Contains xs x → f x ≡ []
flat_empty f [] h x c = absurd (none_in_nil x c)
flat_empty f (y ∷ ys) h x c =
    let both = append_empty (f y) (flat_map f ys) h in
    elim (cons_cases y x ys c) [ inl same ↦ ap f (sym same) ∙ both.0 | inr rest ↦ flat_empty f ys both.1 x rest ]

-- what no element passes that is mapped
pub none_passes : {A B : Type 0} (f : A → B) (p : A → Bool) (xs : List A) → map f (filter p xs) ≡ [] → (x : A) → Contains xs x → p x ≡ false
none_passes f p [] h x c = absurd (none_in_nil x c)
none_passes f p (y ∷ ys) h x c = by (p y) refl h (λ k rest. none_passes f p ys k x rest)
  where
    by : (b : Bool) → p y ≡ b → map f (cond b (y ∷ filter p ys) (filter p ys)) ≡ [] → (map f (filter p ys) ≡ [] → Contains ys x → p x ≡ false) → p x ≡ false
    by true is k more = absurd (cc)
    by false is k more = elim (cons_cases y x ys c) [ inl same ↦ ap p (sym same) ∙ is | inr rest ↦ more k rest ]

-- ---- all elements
pub all_split : {A : Type 0} (P : A → Type 0) (xs ys : List A) → AllByRecursion P (xs ++ ys) → AllByRecursion P xs × AllByRecursion P ys
all_split P [] ys all = (tt, all)
all_split P (x ∷ xs) ys all = let rest = all_split P xs ys all.1 in ((all.0, rest.0), rest.1)

-- ---- elements by their places
