-- What stands beside numbers, each of which comes once.
use Rattle.std.proofs.Common.{◌≡◌, ◌==◌, ◌⊎◌, ℕ, zero, suc, ◌+◌, ◌<◌, ◌≤◌, Bool, true, false, List, [], ◌∷◌, ◌++◌, length, map, Contains, Option, Some, None, refl, sym, ap, subst, ◌∙◌, inl, inr, arith}
use Rattle.std.proofs.lemmas.Bool.{cases_eq, eq-eqb, ne_eqb}
use Rattle.std.proofs.lemmas.List.{get_or-set_other, get_or-set_same}
use Rattle.std.proofs.lemmas.List.FromFn.{length-range_with_len, get_or-range_with_len}
use Rattle.std.specs.Prelude.{if◌then◌else◌, slice_get, slice_index_or, slice_set}
use Rattle.std.specs.FinMap as finite_map
use Rattle.std.specs.List.{All, filter, range_with_len}
use Rattle.delay_timers.specs.inner.Pending.{Times}
use Rattle.tsl_value.proofs.Lists.{cons_cases, later, none_in_nil}
use Rattle.monitor_run.specs.inner.Resuming.{IsOnce, placed}
use Rattle.monitor_run.proofs.BeginLemmas.{get_removed-other, get_removed-same, get_set-other, get_set-same}
use Rattle.monitor_run.proofs.ShownStates.{map_agree}

-- ---- one number

module _ {A : Type 0} (x : ℕ) (xs : List ℕ) (y : A) (ys : List A) (v : ℕ) (old : A) where
  pub placed_here : x ≡ v → placed (x ∷ xs) (y ∷ ys) v old ≡ y
  placed_here same = λ k. if eq-eqb x v same k then y else placed xs ys v old

  pub placed_on : (x ≡ v → ⊥) → placed (x ∷ xs) (y ∷ ys) v old ≡ placed xs ys v old
  placed_on other = λ k. if ne_eqb x v other k then y else placed xs ys v old

pub placed_none : {A : Type 0} (xs : List ℕ) (ys : List A) (v : ℕ) (old : A) → (Contains xs v → ⊥) → placed xs ys v old ≡ old
placed_none [] ys v old none = refl
placed_none (x ∷ xs) [] v old none = refl
placed_none (x ∷ xs) (y ∷ ys) v old none =
    placed_on x xs y ys v old (λ same. none (0, omega arith, same)) ∙ placed_none xs ys v old (λ there. none (later x v xs there))

pub placed_empty : {A : Type 0} (xs : List ℕ) (v : ℕ) (old : A) → placed xs [] v old ≡ old
placed_empty [] v old = refl
placed_empty (x ∷ xs) v old = refl

-- what stands at the first number has been put
pub placed_more : {A : Type 0} (x : ℕ) (xs : List ℕ) (y : A) (ys : List A) (v : ℕ) (old now : A) → (Contains xs x → ⊥) → now ≡ (if x == v then y else old) → placed xs ys v now ≡ placed (x ∷ xs) (y ∷ ys) v old
placed_more x xs y ys v old now fresh is = elim (cases_eq x v) [
  | inl same ↦
      placed_none xs ys v now (λ there. fresh (subst (Contains xs) (sym same) there)) ∙ is
      ∙ (λ k. if eq-eqb x v same k then y else old) ∙ sym (placed_here x xs y ys v old same)
  | inr other ↦ ap (placed xs ys v) (is ∙ (λ k. if ne_eqb x v other k then y else old)) ∙ sym (placed_on x xs y ys v old other)
]

-- ---- what is left of the numbers and of the values

module _ (rest : List ℕ) (x : ℕ) (xs : List ℕ) (is : rest ≡ x ∷ xs) where
  pub rest_once : IsOnce rest → IsOnce xs
  rest_once once = (subst IsOnce is once).1

  pub rest_all : (P : ℕ → Type 0) → All P rest → All P xs
  rest_all P all = λ k d lt. subst (All P) is all (suc k) d (omega arith)

  pub first_all : (P : ℕ → Type 0) → All P rest → P x
  first_all P all = subst (All P) is all 0 x (omega arith)

  pub placed_next : {A : Type 0} (values : List A) (y : A) (ys : List A) → values ≡ y ∷ ys → IsOnce rest → (v : ℕ) (old now whole : A)
      → now ≡ (if x == v then y else old) → placed rest values v old ≡ whole → placed xs ys v now ≡ whole
  placed_next values y ys are once v old now whole put was =
      placed_more x xs y ys v old now (subst IsOnce is once).0 put ∙ (λ k. placed (sym is k) (sym are k) v old) ∙ was

pub placed_over : {A : Type 0} (xs : List ℕ) (ys : List A) (v : ℕ) (old : A) → (xs ≡ []) ⊎ (ys ≡ []) → placed xs ys v old ≡ old
placed_over xs ys v old (inl none) = ap (λ l. placed l ys v old) none
placed_over xs ys v old (inr none) = ap (λ l. placed xs l v old) none ∙ placed_empty xs v old

pub mapped_over : {A B : Type 0} (f : B → A) (xs : List ℕ) (ys : List B) → (xs ≡ []) ⊎ (ys ≡ []) → (xs ≡ []) ⊎ (map f ys ≡ [])
mapped_over f xs ys (inl none) = inl none
mapped_over f xs ys (inr none) = inr (ap (map f) none)

-- ---- what was put

put_at : {A : Type 0} (x v : ℕ) (y old now : A) → (x ≡ v → now ≡ y) → ((x ≡ v → ⊥) → now ≡ old) → now ≡ (if x == v then y else old)
put_at x v y old now here elsewhere = elim (cases_eq x v) [
  | inl same ↦ here same ∙ (λ k. if sym (eq-eqb x v same) k then y else old)
  | inr other ↦ elsewhere other ∙ (λ k. if sym (ne_eqb x v other) k then y else old)
]

-- a value that is put into a list
pub set_at : {A : Type 0} (xs : List A) (i : ℕ) (x d : A) (v : ℕ) → i < length xs → slice_index_or (slice_set xs i x) v d ≡ (if i == v then x else slice_index_or xs v d)
set_at xs i x d v there =
    put_at i v x (slice_index_or xs v d) (slice_index_or (slice_set xs i x) v d)
    (λ same. ap (λ j. slice_index_or (slice_set xs i x) j d) (sym same) ∙ get_or-set_same xs i x d there)
    (λ other. get_or-set_other xs i v x d (λ same. other (sym same)))

pub value_set : {A : Type 0} (old new : List A) (i key : ℕ) (x d : A) (v : ℕ) → new ≡ slice_set old key x → key ≡ i → i < length old → slice_index_or new v d ≡ (if i == v then x else slice_index_or old v d)
value_set old new i key x d v is key_is there =
    ap (λ l. slice_index_or l v d) is ∙ ap (λ j. slice_index_or (slice_set old j x) v d) key_is ∙ set_at old i x d v there

-- a time that is set, and one that is taken away
pub time_set : (old new : Times) (delay key at d : ℕ) (time : Option ℕ) → new ≡ finite_map.insert old key at → key ≡ delay → time ≡ Some at → finite_map.get new d ≡ (if delay == d then time else finite_map.get old d)
time_set old new delay key at d time is key_is time_is =
    put_at delay d time (finite_map.get old d) (finite_map.get new d)
    (λ same. ap (λ ts. finite_map.get ts d) is ∙ ap (finite_map.get (finite_map.insert old key at)) (sym (key_is ∙ same)) ∙ get_set-same old key at ∙ sym time_is)
    (λ other. ap (λ ts. finite_map.get ts d) is ∙ get_set-other old key at d (λ same. other (sym key_is ∙ sym same)))

pub time_gone : (old new : Times) (delay key d : ℕ) (time : Option ℕ) → new ≡ finite_map.remove old key → key ≡ delay → time ≡ None → finite_map.get new d ≡ (if delay == d then time else finite_map.get old d)
time_gone old new delay key d time is key_is time_is =
    put_at delay d time (finite_map.get old d) (finite_map.get new d)
    (λ same. ap (λ ts. finite_map.get ts d) is ∙ ap (finite_map.get (finite_map.remove old key)) (sym (key_is ∙ same)) ∙ get_removed-same old key ∙ sym time_is)
    (λ other. ap (λ ts. finite_map.get ts d) is ∙ get_removed-other old key d (λ same. other (sym key_is ∙ sym same)))

-- ---- all of them

pub placed_all : {A B : Type 0} (f : A → B) (xs : List ℕ) (ys : List A) (old : A) → IsOnce xs → length ys ≡ length xs → map (λ v. f (placed xs ys v old)) xs ≡ map f ys
placed_all f [] [] old once size = refl
placed_all f [] (y ∷ ys) old once size = absurd (omega arith)
placed_all f (x ∷ xs) [] old once size = absurd (omega arith)
placed_all f (x ∷ xs) (y ∷ ys) old once size =
    let first = ap f (placed_here x xs y ys x old refl) in
    let agree = map_agree (λ v. f (placed (x ∷ xs) (y ∷ ys) v old)) (λ v. f (placed xs ys v old)) xs
    (λ v there. ap f (placed_on x xs y ys v old (λ same. once.0 (subst (Contains xs) (sym same) there)))) in
    let rest = placed_all f xs ys old once.1 (omega arith) in
    λ k. first k ∷ (agree ∙ rest) k

-- a number that is there, and what stands beside it
pub record StandsAt {A : Type 0} (xs : List ℕ) (ys : List A) (v : ℕ) (old : A) : Type 0 where
  pub place : ℕ
  pub value : A
  pub number_is : slice_get xs place ≡ Some v
  pub value_is : slice_get ys place ≡ Some value
  pub is : placed xs ys v old ≡ value

pub stands_at : {A : Type 0} (xs : List ℕ) (ys : List A) (v : ℕ) (old : A) → length ys ≡ length xs → Contains xs v → StandsAt xs ys v old
stands_at [] ys v old size there = absurd (none_in_nil v there)
stands_at (x ∷ xs) [] v old size there = absurd (omega arith)
stands_at (x ∷ xs) (y ∷ ys) v old size there = elim (cases_eq x v) [
  | inl same ↦ record { place = 0; value = y; number_is = ap Some same; value_is = refl; is = placed_here x xs y ys v old same }
  | inr other ↦ elim (cons_cases x v xs there) [
    | inl same ↦ absurd (other same)
    | inr after ↦
        let rest = stands_at xs ys v old (omega arith) after in
        record { place = suc rest.place; value = rest.value; number_is = rest.number_is; value_is = rest.value_is; is = placed_on x xs y ys v old other ∙ rest.is }
  ]
]

-- ---- lists whose numbers come once

from_first : (a n x : ℕ) → Contains (range_with_len a n) x → a ≤ x
from_first a n x (k, lt, is) =
    let size = length-range_with_len a n in
    let at = get_or-range_with_len a n k x (omega arith) in
    omega arith

pub range_once : (a n : ℕ) → IsOnce (range_with_len a n)
range_once a zero = tt
range_once a (suc n) = ((λ there. let low = from_first (a + 1) n a there in omega arith), range_once (a + 1) n)

in_filtered : (p : ℕ → Bool) (xs : List ℕ) (x : ℕ) → Contains (filter p xs) x → Contains xs x
in_filtered p [] x there = there
in_filtered p (y ∷ xs) x there = from (p y) (λ after. in_filtered p xs x after) there
  where
    from : (b : Bool) → (Contains (filter p xs) x → Contains xs x) → Contains (if b then y ∷ filter p xs else filter p xs) x → Contains (y ∷ xs) x
    from true rest there = elim (cons_cases y x (filter p xs) there) [
      | inl same ↦ (0, omega arith, same)
      | inr after ↦ later y x xs (rest after)
    ]
    from false rest there = later y x xs (rest there)

pub filter_once : (p : ℕ → Bool) (xs : List ℕ) → IsOnce xs → IsOnce (filter p xs)
filter_once p [] once = tt
filter_once p (x ∷ xs) once = from (p x) (filter_once p xs once.1)
  where
    from : (b : Bool) → IsOnce (filter p xs) → IsOnce (if b then x ∷ filter p xs else filter p xs)
    from true rest = ((λ there. once.0 (in_filtered p xs x there)), rest)
    from false rest = rest

pushed_cases : (xs : List ℕ) (x y : ℕ) → Contains (xs ++ x ∷ []) y → Contains xs y ⊎ (x ≡ y)
pushed_cases [] x y there = elim (cons_cases x y [] there) [ inl same ↦ inr same | inr after ↦ inl after ]
pushed_cases (z ∷ xs) x y there = elim (cons_cases z y (xs ++ x ∷ []) there) [
  | inl same ↦ inl (0, omega arith, same)
  | inr after ↦ elim (pushed_cases xs x y after) [ inl rest ↦ inl (later z y xs rest) | inr same ↦ inr same ]
]

pub once_push : (xs : List ℕ) (x : ℕ) → IsOnce xs → (Contains xs x → ⊥) → IsOnce (xs ++ x ∷ [])
once_push [] x once fresh = (none_in_nil x, tt)
once_push (y ∷ xs) x once fresh = ((λ there. apart (pushed_cases xs x y there)), once_push xs x once.1 (λ there. fresh (later y x xs there)))
  where
    apart : (Contains xs y ⊎ (x ≡ y)) → ⊥
    apart (inl there) = once.0 there
    apart (inr same) = fresh (0, omega arith, sym same)
