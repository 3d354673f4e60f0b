-- Members of lists, and lists without repeats.
use Rattle.std.proofs.Common.{◌≡◌, ℕ, ◌<◌, ◌≤◌, true, false, List, [], ◌∷◌, ◌++◌, length, eqb, Contains, refl, sym, ap, subst, ◌∙◌, ◌⊎◌, inl, inr, arith}
use Rattle.std.proofs.lemmas.Bool.{or_cases, or_left, or_right, false≢true, eqb-true, eqb-false, eq-eqb, ne_eqb}
use Rattle.std.proofs.lemmas.List.Elements.{Contains-push_cases}
use Rattle.std.proofs.lemmas.Map.Steps.{length-le_from_distinct_below}
use Rattle.std.specs.List.{AllByRecursion, IsDistinct, list_any}
use Rattle.tsl_value.proofs.Lists.{here, later, none_in_nil, cons_cases, middle}

pub any_from_contains : (xs : List ℕ) (x : ℕ) → Contains xs x → list_any (eqb x) xs ≡ true
any_from_contains [] x c = absurd (none_in_nil x c)
any_from_contains (y ∷ ys) x c = elim (cons_cases y x ys c) [
  | inl same ↦ or_left (eqb x y) (list_any (eqb x) ys) (eq-eqb x y (sym same))
  | inr rest ↦ or_right (eqb x y) (list_any (eqb x) ys) (any_from_contains ys x rest)
]

pub contains_from_any : (xs : List ℕ) (x : ℕ) → list_any (eqb x) xs ≡ true → Contains xs x
contains_from_any [] x h = absurd (false≢true h)
contains_from_any (y ∷ ys) x h = elim (or_cases (eqb x y) (list_any (eqb x) ys) h) [
  | inl same ↦ (0, omega arith, sym (eqb-true x y same))
  | inr rest ↦ later y x ys (contains_from_any ys x rest)
]

-- a list is split at a member
pub split_at : (xs : List ℕ) (x : ℕ) → Contains xs x → (front : List ℕ) × (rest : List ℕ) × (xs ≡ front ++ x ∷ rest)
split_at [] x c = absurd (none_in_nil x c)
split_at (y ∷ ys) x c = elim (cons_cases y x ys c) [
  | inl same ↦ ([], ys, ap (λ z. z ∷ ys) same)
  | inr rest ↦ let parts = split_at ys x rest in (y ∷ parts.0, parts.1, ap (λ zs. y ∷ zs) parts.2)
]

-- a split of a list with one more at its end
pub split_push : (xs front rest : List ℕ) (x y : ℕ) → xs ++ x ∷ [] ≡ front ++ y ∷ rest → ((xs ≡ front) × (x ≡ y)) ⊎ ((r : List ℕ) × (xs ≡ front ++ y ∷ r))
split_push [] [] rest x y e = inl (refl, cc)
split_push [] (f ∷ []) rest x y e = absurd (cc)
split_push [] (f ∷ g ∷ front) rest x y e = absurd (cc)
split_push (z ∷ zs) [] rest x y e = inr (zs, let same : z ≡ y = cc in ap (λ v. v ∷ zs) same)
split_push (z ∷ zs) (f ∷ front) rest x y e =
    let first : z ≡ f = cc in
    let tail : zs ++ x ∷ [] ≡ front ++ y ∷ rest = cc in
    elim (split_push zs front rest x y tail) [
      | inl (same, at) ↦ inl ((ap (λ v. v ∷ zs) first ∙ ap (λ v. f ∷ v) same), at)
      | inr (r, is) ↦ inr (r, ap (λ v. v ∷ zs) first ∙ ap (λ v. f ∷ v) is)
    ]

-- ---- no repeats
pub not_among : (x : ℕ) (xs : List ℕ) → AllByRecursion (λ y. eqb x y ≡ false) xs → Contains xs x → ⊥
not_among x [] all c = none_in_nil x c
not_among x (y ∷ ys) all c = elim (cons_cases y x ys c) [
  | inl same ↦ eqb-false x y all.0 (sym same)
  | inr rest ↦ not_among x ys all.1 rest
]

pub all_others : (x : ℕ) (xs : List ℕ) → (Contains xs x → ⊥) → AllByRecursion (λ y. eqb x y ≡ false) xs
all_others x [] apart = tt
all_others x (y ∷ ys) apart = (ne_eqb x y (λ same. apart (0, omega arith, sym same)), all_others x ys (λ c. apart (later y x ys c)))

pub once_split : (front back : List ℕ) (x : ℕ) → IsDistinct eqb (front ++ x ∷ back) → (Contains front x → ⊥) × (Contains back x → ⊥)
unfolding IsDistinct
once_split [] back x once = (none_in_nil x, not_among x back once.0)
once_split (y ∷ front) back x once =
    let rest = once_split front back x once.1 in (
      (λ c. elim (cons_cases y x front c) [
        | inl same ↦ not_among y (front ++ x ∷ back) once.0 (subst (Contains (front ++ x ∷ back)) (sym same) (middle front back x))
        | inr tail ↦ rest.0 tail
      ]),
      rest.1,
    )

pub once_after : (front xs : List ℕ) → IsDistinct eqb (front ++ xs) → IsDistinct eqb xs
unfolding IsDistinct
once_after [] xs once = once
once_after (y ∷ front) xs once = once_after front xs once.1

pub once_push : (xs : List ℕ) (y : ℕ) → IsDistinct eqb xs → (Contains xs y → ⊥) → IsDistinct eqb (xs ++ y ∷ [])
unfolding IsDistinct
once_push [] y once apart = (tt, tt)
once_push (x ∷ xs) y once apart = (
  all_others x (xs ++ y ∷ []) (λ c. elim (Contains-push_cases xs y x c) [
    | inl old ↦ not_among x xs once.0 old
    | inr same ↦ apart (0, omega arith, sym same)
  ]),
  once_push xs y once.1 (λ c. apart (later x y xs c)),
)

-- a list in which no member comes again
pub once_from_splits : (xs : List ℕ) → ((front rest : List ℕ) (x : ℕ) → xs ≡ front ++ x ∷ rest → Contains front x → ⊥) → IsDistinct eqb xs
unfolding IsDistinct
once_from_splits [] apart = tt
once_from_splits (x ∷ xs) apart = (
  all_others x xs (λ c. let parts = split_at xs x c in apart (x ∷ parts.0) parts.1 x (ap (λ v. x ∷ v) parts.2) (here x parts.0)),
  once_from_splits xs (λ front rest y is c. apart (x ∷ front) rest y (ap (λ v. x ∷ v) is) (later x y front c)),
)

-- a list without repeats has one split at a member
pub same_split : (p q r s : List ℕ) (m : ℕ) → IsDistinct eqb (p ++ m ∷ q) → p ++ m ∷ q ≡ r ++ m ∷ s → (p ≡ r) × (q ≡ s)
unfolding IsDistinct
same_split [] q [] s m once e = (refl, cc)
same_split [] q (y ∷ r) s m once e =
    let tail : q ≡ r ++ m ∷ s = cc in
    absurd (not_among m q once.0 (subst (λ v. Contains v m) (sym tail) (middle r s m)))
same_split (x ∷ p) q [] s m once e =
    let first : m ≡ x = cc in
    absurd (not_among x (p ++ m ∷ q) once.0 (subst (Contains (p ++ m ∷ q)) first (middle p q m)))
same_split (x ∷ p) q (y ∷ r) s m once e =
    let first : x ≡ y = cc in
    let tail : p ++ m ∷ q ≡ r ++ m ∷ s = cc in
    let rest = same_split p q r s m once.1 tail in
    (ap (λ v. v ∷ p) first ∙ ap (λ v. y ∷ v) rest.0, rest.1)

pub few_below : (xs : List ℕ) (n : ℕ) → IsDistinct eqb xs → ((x : ℕ) → Contains xs x → x < n) → length xs ≤ n
few_below xs n once below = length-le_from_distinct_below xs n once (λ q any. below q (contains_from_any xs q any))
