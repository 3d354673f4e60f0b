-- Members of lists.
use Rattle.std.proofs.Common.{◌≡◌, ℕ, ◌+◌, ◌<◌, List, [], ◌∷◌, ◌++◌, length, reverse, Contains, sym, ap, subst, ◌∙◌, ◌⊎◌, inl, inr, length-append, arith}
use Rattle.std.proofs.lemmas.Bool.{cases_eq}
use Rattle.std.proofs.lemmas.List.{reverse-append}
use Rattle.std.proofs.lemmas.List.Elements.{Contains-push, Contains-push_cases, Contains-append_left, Contains-append_right, Contains-append_cases}
use Rattle.translation_order.specs.inner.Joined.{AreJoined}
use Rattle.tsl_value.proofs.Lists.{none_in_nil}

pub none_in : (xs : List ℕ) (x : ℕ) → xs ≡ [] → Contains xs x → ⊥
none_in xs x is c = none_in_nil x (subst (λ l. Contains l x) is c)

-- ---- lists put together
pub in_joined : (xs ys zs : List ℕ) (x : ℕ) → AreJoined xs ys zs → Contains zs x → Contains xs x ⊎ Contains ys x
in_joined xs ys zs x (inl is) c = Contains-append_cases xs ys x (subst (λ l. Contains l x) is c)
in_joined xs ys zs x (inr is) c = elim (Contains-append_cases ys xs x (subst (λ l. Contains l x) is c)) [
  | inl after ↦ inr after
  | inr front ↦ inl front
]

pub of_joined_first : (xs ys zs : List ℕ) (x : ℕ) → AreJoined xs ys zs → Contains xs x → Contains zs x
of_joined_first xs ys zs x (inl is) c = subst (λ l. Contains l x) (sym is) (Contains-append_left xs ys x c)
of_joined_first xs ys zs x (inr is) c = subst (λ l. Contains l x) (sym is) (Contains-append_right ys xs x c)

pub of_joined_second : (xs ys zs : List ℕ) (x : ℕ) → AreJoined xs ys zs → Contains ys x → Contains zs x
of_joined_second xs ys zs x (inl is) c = subst (λ l. Contains l x) (sym is) (Contains-append_right xs ys x c)
of_joined_second xs ys zs x (inr is) c = subst (λ l. Contains l x) (sym is) (Contains-append_left ys xs x c)

pub joined_length : (xs ys zs : List ℕ) → AreJoined xs ys zs → length zs ≡ length xs + length ys
joined_length xs ys zs (inl is) = ap length is ∙ length-append xs ys
joined_length xs ys zs (inr is) = let long = ap length is ∙ length-append ys xs in omega arith

-- ---- the last of a list
pub reverse_push : {X : Type 0} (xs : List X) (x : X) → reverse (xs ++ x ∷ []) ≡ x ∷ reverse xs
reverse_push xs x = reverse-append xs (x ∷ [])

pub last_target : (xs front : List ℕ) (x : ℕ) → xs ≡ front ++ x ∷ [] → Contains xs x
last_target xs front x is = subst (λ l. Contains l x) (sym is) (Contains-push front x)

-- the numbers below one more
pub below_more : (xs ys : List ℕ) (n : ℕ) → ((x : ℕ) → Contains xs x → x < n) × ((x : ℕ) → x < n → Contains xs x) → ys ≡ xs ++ n ∷ [] → ((x : ℕ) → Contains ys x → x < n + 1) × ((x : ℕ) → x < n + 1 → Contains ys x)
below_more xs ys n both is = (
  (λ x c. elim (Contains-push_cases xs n x (subst (λ l. Contains l x) is c)) [
    | inl old ↦ let low = both.0 x old in omega arith
    | inr same ↦ omega arith
  ]),
  (λ x low. subst (λ l. Contains l x) (sym is) (elim (cases_eq n x) [
    | inl same ↦ subst (Contains (xs ++ n ∷ [])) same (Contains-push xs n)
    | inr other ↦ Contains-append_left xs (n ∷ []) x (both.1 x (omega arith))
  ])),
)
