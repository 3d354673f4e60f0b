-- The place in an order of the steps is a rank of the running equations.
use Rattle.std.proofs.Common.{◌≡◌, ◌==◌, ℕ, zero, suc, ◌<◌, ◌≤◌, Bool, true, false, ◌||◌, List, [], ◌∷◌, length, get_or, take, Some, refl, sym, ap, subst, ◌∙◌, inl, inr, arith}
use Rattle.std.proofs.lemmas.Bool.{cases_Bool, cases_lt, eq-eqb, eqb-true, or_left, or_right, true≢false, false≢true}
use Rattle.std.proofs.lemmas.Option.{get_or_from_slice_get, slice_get-get_or, slice_get_within, same_Some}
use Rattle.std.specs.Prelude.{if◌then◌else◌, slice_get, slice_index_or, eqb}
use Rattle.std.specs.List.{IsDistinct}
use Rattle.flat_core.specs.Members.{is_in}
use Rattle.flat_core.specs.System.{System}
use Rattle.flat_core.specs.WellFormed.{IsRanked, unguarded_of}
use Rattle.flat_core.proofs.Members.{all_at, all_from}
use Rattle.alias_rules.specs.Steps.{argument, IsOrderBy, MustPrecede}

pub in_take : (xs : List ℕ) (k m x : ℕ) → m < k → slice_get xs m ≡ Some x → is_in (take k xs) x ≡ true
in_take [] k m x lt is = let within = slice_get_within [] m x is in absurd (omega arith)
in_take (y ∷ xs) zero m x lt is = absurd (omega arith)
in_take (y ∷ xs) (suc k) zero x lt is = or_left (y == x) (is_in (take k xs) x) (eq-eqb y x (same_Some y x is))
in_take (y ∷ xs) (suc k) (suc m) x lt is = or_right (y == x) (is_in (take k xs) x) (in_take xs k m x (omega arith) is)

both_false : (a b : Bool) → a ≡ false → b ≡ false → (a || b) ≡ false
both_false a b p q = λ k. p k || q k

pub not_in_take : (xs : List ℕ) (k : ℕ) → IsDistinct eqb xs → k < length xs → is_in (take k xs) (get_or xs k 0) ≡ false
unfolding IsDistinct
not_in_take [] k apart lt = absurd (omega arith)
not_in_take (x ∷ xs) zero apart lt = refl
not_in_take (x ∷ xs) (suc k) apart lt =
    both_false (x == get_or xs k 0) (is_in (take k xs) (get_or xs k 0)) (all_at (λ y. eqb x y ≡ false) xs apart.0 (get_or xs k 0) (k, omega arith, get_or_default_same xs k (omega arith)))
    (not_in_take xs k apart.1 (omega arith))
  where
    get_or_default_same : (ys : List ℕ) (j : ℕ) → j < length ys → slice_index_or ys j (get_or ys j 0) ≡ get_or ys j 0
    get_or_default_same ys j within = get_or_from_slice_get ys j (get_or ys j 0) (get_or ys j 0) (slice_get-get_or ys j 0 within)

-- a number stands at one place
pub one_place : (xs : List ℕ) (k m : ℕ) → IsDistinct eqb xs → k < length xs → slice_get xs m ≡ Some (get_or xs k 0) → m ≡ k
one_place xs k m apart lt is = elim (cases_lt m k) [
  | inl low ↦ absurd (false≢true (sym (not_in_take xs k apart lt) ∙ in_take xs k m (get_or xs k 0) low is))
  | inr high ↦ elim (cases_lt k m) [
    | inl above ↦
        let there : get_or xs m 0 ≡ get_or xs k 0 = get_or_from_slice_get xs m (get_or xs k 0) 0 is in
        absurd (false≢true (sym (ap (is_in (take m xs)) (sym there) ∙ not_in_take xs m apart (slice_get_within xs m (get_or xs k 0) is)) ∙ in_take xs m k (get_or xs k 0) above (slice_get-get_or xs k 0 lt)))
    | inr level ↦ omega arith
  ]
]

-- the first place at which a number stands
pub place : List ℕ → ℕ → ℕ
place [] i = 0
place (x ∷ xs) i = if x == i then 0 else suc (place xs i)

place_le : (xs : List ℕ) (m i : ℕ) → slice_get xs m ≡ Some i → place xs i ≤ m
unfolding place
place_le [] m i is = omega arith
place_le (x ∷ xs) m i is = elim (cases_Bool (x == i)) [
  | inl here ↦ let first : (if x == i then 0 else suc (place xs i)) ≡ 0 = λ k. if here k then 0 else suc (place xs i) in omega arith
  | inr other ↦ later (λ k at. place_le xs k i at) m is other
]
  where
    later : ((k : ℕ) → slice_get xs k ≡ Some i → place xs i ≤ k) → (k : ℕ) → slice_get (x ∷ xs) k ≡ Some i → (x == i) ≡ false → (if x == i then 0 else suc (place xs i)) ≤ k
    later rest zero at other = absurd (true≢false (sym (eq-eqb x i (same_Some x i at)) ∙ other))
    later rest (suc k) at other = let deeper = rest k at in let is_next : (if x == i then 0 else suc (place xs i)) ≡ suc (place xs i) = λ j. if other j then 0 else suc (place xs i) in omega arith

place_there : (xs : List ℕ) (m i : ℕ) → slice_get xs m ≡ Some i → slice_get xs (place xs i) ≡ Some i
unfolding place
place_there [] m i is = let within = slice_get_within [] m i is in absurd (omega arith)
place_there (x ∷ xs) m i is = elim (cases_Bool (x == i)) [
  | inl here ↦ (λ k. slice_get (x ∷ xs) (if here k then 0 else suc (place xs i))) ∙ ap Some (eqb-true x i here)
  | inr other ↦ (λ k. slice_get (x ∷ xs) (if other k then 0 else suc (place xs i))) ∙ later (λ k at. place_there xs k i at) m is other
]
  where
    later : ((k : ℕ) → slice_get xs k ≡ Some i → slice_get xs (place xs i) ≡ Some i) → (k : ℕ) → slice_get (x ∷ xs) k ≡ Some i → (x == i) ≡ false → slice_get xs (place xs i) ≡ Some i
    later rest zero at other = absurd (true≢false (sym (eq-eqb x i (same_Some x i at)) ∙ other))
    later rest (suc k) at other = rest k at

-- each order that agrees with what must precede ranks the running equations, whatever else it agrees with
pub order_ranked : (s : System) (E : ℕ → ℕ → Type 0) → ((a b : ℕ) → MustPrecede s a b → E a b) → (order : List ℕ) → IsOrderBy s E order → IsRanked s (place order)
order_ranked s E needed order by = record {
  falls = λ i e run is. all_from (λ a. place order a < place order i) (unguarded_of e.op e.args) (λ a c.
      let p = by.agrees a i (needed a i (argument run (record { at = e; is = is; argument = c }))) in
      let within = slice_get_within order p.second i p.second_is in
      let at_second = get_or_from_slice_get order p.second i 0 p.second_is in
      let same : place order i ≡ p.second = one_place order p.second (place order i) by.once within (place_there order p.second i p.second_is ∙ ap Some (sym at_second)) in
      let low = place_le order p.first a p.first_is in
      let before = p.is_before in
      omega arith);
}
