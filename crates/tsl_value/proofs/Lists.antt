-- Elements of lists: where they stand, what holds of all of them, and which are kept.
use Rattle.std.proofs.Common.{◌≡◌, ℕ, zero, suc, ◌+◌, ◌<◌, ◌⊎◌, Bool, true, false, cond, List, [], ◌∷◌, ◌++◌, length, take, drop, get_or, eqb, map, Contains, Some, None, refl, sym, ap, subst, ◌∙◌, inl, inr, arith}
use Rattle.std.specs.Prelude.{if◌then◌else◌, slice_get}
use Rattle.std.specs.List.{AllByRecursion, IsDistinct, filter, find, flat_map, list_all, list_any}
use Rattle.std.proofs.lemmas.Bool.{and_from, cases_Bool, cases_eq, or_cases, or_parts, false≢true, eqb-true}
use Rattle.std.proofs.lemmas.Bool.Decides.{Decides-eqb}
use Rattle.std.proofs.lemmas.List.{drop_more, take_more}
use Rattle.std.proofs.lemmas.List.Kept.{AllPairs-filter}
use Rattle.std.proofs.lemmas.Map.Made.{AllPairs-from_IsDistinct, IsDistinct-from_AllPairs}
use Rattle.std.proofs.lemmas.Option.{same_Some, none-some, slice_get_within, get_or_from_slice_get}

-- ---- elements
pub here : {X : Type 0} (x : X) (xs : List X) → Contains (x ∷ xs) x
here x xs = (0, omega arith, refl)

pub later : {X : Type 0} (y x : X) (xs : List X) → Contains xs x → Contains (y ∷ xs) x
later y x xs (k, lt, is) = (suc k, omega arith, is)

pub none_in_nil : {X : Type 0} (x : X) → Contains [] x → ⊥
none_in_nil x (k, lt, is) = omega arith

pub cons_cases : {X : Type 0} (y x : X) (xs : List X) → Contains (y ∷ xs) x → (y ≡ x) ⊎ Contains xs x
cons_cases y x xs (zero, lt, is) = inl is
cons_cases y x xs (suc k, lt, is) = inr (k, omega arith, is)

-- an element of what is left is one of the whole
pub in_rest : {X : Type 0} (xs : List X) (x : X) → Contains (drop 1 xs) x → Contains xs x
in_rest [] x c = c
in_rest (y ∷ ys) x c = later y x ys c

-- a list of one element has no other
pub only : {X : Type 0} (y x : X) → Contains (y ∷ []) x → y ≡ x
only y x (zero, lt, is) = is
only y x (suc k, lt, is) = absurd (omega arith)

-- an element between others
pub middle : {X : Type 0} (front rest : List X) (x : X) → Contains (front ++ x ∷ rest) x
middle [] rest x = here x rest
middle (y ∷ front) rest x = later y x (front ++ x ∷ rest) (middle front rest x)

-- an element of a mapped list comes from one
pub contains_map : {X Y : Type 0} (f : X → Y) (xs : List X) (y : Y) → Contains (map f xs) y → (x : X) × Contains xs x × (f x ≡ y)
contains_map f [] y (k, lt, is) = absurd (omega arith)
contains_map f (x ∷ xs) y (zero, lt, is) = (x, here x xs, is)
contains_map f (x ∷ xs) y (suc k, lt, is) = let found = contains_map f xs y (k, omega arith, is) in (found.0, later x found.0 xs found.1, found.2)

pub map_contains : {X Y : Type 0} (f : X → Y) (xs : List X) (x : X) → Contains xs x → Contains (map f xs) (f x)
map_contains f [] x (k, lt, is) = absurd (omega arith)
map_contains f (y ∷ xs) x (zero, lt, is) = (0, omega arith, ap f is)
map_contains f (y ∷ xs) x (suc k, lt, is) = later (f y) (f x) (map f xs) (map_contains f xs x (k, omega arith, is))

-- a number is an element or not
pub member_cases : (xs : List ℕ) (x : ℕ) → Contains xs x ⊎ (Contains xs x → ⊥)
member_cases [] x = inr (none_in_nil x)
member_cases (y ∷ ys) x = elim (cases_eq y x) [
  | inl same ↦ inl (0, omega arith, same)
  | inr other ↦ elim (member_cases ys x) [
    | inl rest ↦ inl (later y x ys rest)
    | inr out ↦ inr (λ c. elim (cons_cases y x ys c) [ inl same ↦ other same | inr rest ↦ out rest ])
  ]
]

pub append_empty : {A : Type 0} (xs ys : List A) → xs ++ ys ≡ [] → (xs ≡ []) × (ys ≡ [])
append_empty [] ys h = (refl, h)
append_empty (x ∷ xs) ys h = absurd (cc)

-- ---- elements by their places
pub contains_at : {A : Type 0} (xs : List A) (k : ℕ) (x : A) → slice_get xs k ≡ Some x → Contains xs x
contains_at xs k x is = (k, slice_get_within xs k x is, get_or_from_slice_get xs k x x is)

pub get_left : {A : Type 0} (xs ys : List A) (k : ℕ) (x : A) → slice_get xs k ≡ Some x → slice_get (xs ++ ys) k ≡ Some x
get_left [] ys k x is = absurd (none-some x is)
get_left (y ∷ xs) ys zero x is = is
get_left (y ∷ xs) ys (suc k) x is = get_left xs ys k x is

pub get_right : {A : Type 0} (xs ys : List A) (k : ℕ) → slice_get (xs ++ ys) (length xs + k) ≡ slice_get ys k
get_right [] ys k = let e : 0 + k ≡ k = omega arith in ap (slice_get ys) e
get_right (x ∷ xs) ys k = let e : suc (length xs) + k ≡ suc (length xs + k) = omega arith in ap (slice_get (x ∷ (xs ++ ys))) e ∙ get_right xs ys k

-- the first of what follows others
pub get_seam : {A : Type 0} (xs : List A) (x : A) (ys : List A) → slice_get (xs ++ x ∷ ys) (length xs) ≡ Some x
get_seam [] x ys = refl
get_seam (y ∷ xs) x ys = get_seam xs x ys

-- what is left of a list at an element
pub left_at : {A : Type 0} (xs : List A) (i : ℕ) (x : A) → i < length xs → x ≡ get_or xs i x → drop i xs ≡ x ∷ drop (i + 1) xs
left_at xs i x lt is = drop_more xs i x lt ∙ ap (λ y. y ∷ drop (i + 1) xs) (sym is)

-- one element more than the first ones
pub one_more : {A : Type 0} (xs : List A) (n : ℕ) (x : A) (ys zs : List A) → slice_get xs n ≡ Some x → ys ≡ take n xs → zs ≡ ys ++ x ∷ [] → zs ≡ take (n + 1) xs
one_more xs n x ys zs at begun more =
    more ∙ ap (λ l. l ++ x ∷ []) begun ∙ ap (λ v. take n xs ++ v ∷ []) (sym (get_or_from_slice_get xs n x x at)) ∙ sym (take_more xs n x (slice_get_within xs n x at))

-- the first ones of a list to which more is put
pub take_append : {A : Type 0} (n : ℕ) (xs ys : List A) → (more : List A) × (take n (xs ++ ys) ≡ take n xs ++ more)
take_append zero xs ys = ([], refl)
take_append (suc n) [] ys = (take (suc n) ys, refl)
take_append (suc n) (x ∷ xs) ys = let (more, is) = take_append n xs ys in (more, ap (λ l. x ∷ l) is)

-- ---- what holds of all elements
pub all_by_place : {A : Type 0} (P : A → Type 0) (xs : List A) → AllByRecursion P xs → (k : ℕ) (x : A) → slice_get xs k ≡ Some x → P x
all_by_place P [] all k x is = absurd (none-some x is)
all_by_place P (y ∷ xs) all zero x is = subst P (same_Some y x is) all.0
all_by_place P (y ∷ xs) all (suc k) x is = all_by_place P xs all.1 k x is

pub all_take : {A : Type 0} (P : A → Type 0) (n : ℕ) (xs : List A) → AllByRecursion P xs → AllByRecursion P (take n xs)
all_take P zero xs all = tt
all_take P (suc n) [] all = tt
all_take P (suc n) (x ∷ xs) all = (all.0, all_take P n xs all.1)

pub below_at : (n : ℕ) (xs : List ℕ) → AllByRecursion (λ x. x < n) xs → (q : ℕ) → list_any (eqb q) xs ≡ true → q < n
below_at n [] all q is = absurd (false≢true is)
below_at n (x ∷ xs) all q is = elim (or_cases (eqb q x) (list_any (eqb q) xs) is) [
  | inl same ↦ subst (λ y. y < n) (sym (eqb-true q x same)) all.0
  | inr rest ↦ below_at n xs all.1 q rest
]

-- ---- tests that no element passes
pub none_of : {A : Type 0} (p : A → Bool) (xs : List A) → list_any p xs ≡ false → AllByRecursion (λ x. p x ≡ false) xs
none_of p [] none = tt
none_of p (x ∷ xs) none = let both = or_parts (p x) (list_any p xs) none in (both.0, none_of p xs both.1)

pub none_all : {A : Type 0} (p : A → Bool) (xs : List A) → list_any p xs ≡ false → list_all (λ x. if p x then false else true) xs ≡ true
none_all p [] h = refl
none_all p (x ∷ xs) h =
    let both = or_parts (p x) (list_any p xs) h in
    and_from (if p x then false else true) (list_all (λ y. if p y then false else true) xs) (λ i. if both.0 i then false else true) (none_all p xs both.1)

pub none_found : {A : Type 0} (p : A → Bool) (xs : List A) → AllByRecursion (λ x. p x ≡ false) xs → find p xs ≡ None
none_found p [] none = refl
none_found p (x ∷ xs) none = let rest = none_found p xs none.1 in λ i. cond (none.0 i) (Some x) (rest i)

-- ---- elements that are kept
pub filter_all : {A : Type 0} (p : A → Bool) (xs : List A) → AllByRecursion (λ x. p x ≡ true) xs → filter p xs ≡ xs
filter_all p [] all = refl
filter_all p (x ∷ xs) all = (λ k. cond (all.0 k) (x ∷ filter p xs) (filter p xs)) ∙ ap (λ l. x ∷ l) (filter_all p xs all.1)

pub filter_none : {A : Type 0} (p : A → Bool) (xs : List A) → AllByRecursion (λ x. p x ≡ false) xs → filter p xs ≡ []
filter_none p [] none = refl
filter_none p (x ∷ xs) none = (λ k. cond (none.0 k) (x ∷ filter p xs) (filter p xs)) ∙ filter_none p xs none.1

module _ {A : Type 0} (p : A → Bool) where
  pub with_first : (x : A) (xs : List A) → p x ≡ true → filter p (x ∷ xs) ≡ x ∷ filter p xs
  with_first x xs passes = ap (λ b. cond b (x ∷ filter p xs) (filter p xs)) passes

  pub without_first : (x : A) (xs : List A) → p x ≡ false → filter p (x ∷ xs) ≡ filter p xs
  without_first x xs fails = ap (λ b. cond b (x ∷ filter p xs) (filter p xs)) fails

  pub kept_in : (xs : List A) (x : A) → Contains xs x → p x ≡ true → Contains (filter p xs) x
  kept_in [] x c h = absurd (none_in_nil x c)
  kept_in (y ∷ ys) x c h = elim (cons_cases y x ys c) [
    | inl same ↦ subst (λ l. Contains l x) (sym (with_first y ys (ap p same ∙ h))) (subst (Contains (y ∷ filter p ys)) same (here y (filter p ys)))
    | inr rest ↦ elim (cases_Bool (p y)) [
      | inl passes ↦ subst (λ l. Contains l x) (sym (with_first y ys passes)) (later y x (filter p ys) (kept_in ys x rest h))
      | inr fails ↦ subst (λ l. Contains l x) (sym (without_first y ys fails)) (kept_in ys x rest h)
    ]
  ]

  pub in_kept : (xs : List A) (x : A) → Contains (filter p xs) x → Contains xs x × (p x ≡ true)
  in_kept [] x c = absurd (none_in_nil x c)
  in_kept (y ∷ ys) x c = elim (cases_Bool (p y)) [
    | inl passes ↦ elim (cons_cases y x (filter p ys) (subst (λ l. Contains l x) (with_first y ys passes) c)) [
      | inl same ↦ (subst (Contains (y ∷ ys)) same (here y ys), ap p (sym same) ∙ passes)
      | inr rest ↦ let found = in_kept ys x rest in (later y x ys found.0, found.1)
    ]
    | inr fails ↦ let found = in_kept ys x (subst (λ l. Contains l x) (without_first y ys fails) c) in (later y x ys found.0, found.1)
  ]

pub kept_once : (p : ℕ → Bool) (xs : List ℕ) → IsDistinct eqb xs → IsDistinct eqb (filter p xs)
kept_once p xs once =
    IsDistinct-from_AllPairs Decides-eqb (filter p xs) (AllPairs-filter (λ x y. x ≡ y → ⊥) p xs (AllPairs-from_IsDistinct Decides-eqb xs once))

-- ---- texts of the elements
pub flat_map_same : {A B : Type 0} (f g : A → List B) (xs : List A) → AllByRecursion (λ x. f x ≡ g x) xs → flat_map f xs ≡ flat_map g xs
flat_map_same f g [] same = refl
flat_map_same f g (x ∷ xs) same = let rest = flat_map_same f g xs same.1 in λ k. same.0 k ++ rest k
