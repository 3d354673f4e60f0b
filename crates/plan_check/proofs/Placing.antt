-- Places of steps while an order is gone through.
use Rattle.std.proofs.Common.{◌≡◌, ℕ, zero, suc, ◌+◌, ◌<◌, ◌≤◌, Bool, true, false, List, [], ◌∷◌, length, set, replicate, Option, Some, None, refl, sym, ap, subst, ◌∙◌, inl, inr, arith}
use Rattle.std.specs.Prelude.{◌↔◌, IsTrue, eqb, is_none, slice_get, slice_index_or}
use Rattle.std.specs.List.{Contains, IsDistinct}
use Rattle.std.proofs.lemmas.Bool.{cases_Bool, cases_eq, cases_lt, eqb-true, false≢true}
use Rattle.std.proofs.lemmas.List.{get_or-set_same, get_or-set_other, length-replicate, length-set}
use Rattle.std.proofs.lemmas.Option.{get_or_from_slice_get, none-some, same_Some, slice_get-get_or, slice_get_within}
use Rattle.tsl_value.proofs.Lists.{contains_at}
use Rattle.flat_core.specs.System.{System}
use Rattle.flat_core.proofs.Members.{all_from}
use Rattle.alias_rules.specs.Steps.{is_step, step_count}
use Rattle.alias_rules.proofs.Ranks.{one_place}
use Rattle.flat_core.specs.Complete.{IsFlat}
use Rattle.register_code.proofs.PairLemmas.{step_low}
use Rattle.plan_check.specs.inner.Places.{place_in, AreSteps, ArePlaces, AllStand, IsUnplaced}

-- ---- distinct lists have each number at one place
pub same_place : (xs : List ℕ) (k m x : ℕ) → IsDistinct eqb xs → slice_get xs k ≡ Some x → slice_get xs m ≡ Some x → m ≡ k
same_place xs k m x apart first second =
    one_place xs k m apart (slice_get_within xs k x first) (second ∙ ap Some (sym (get_or_from_slice_get xs k x 0 first)))

-- an element stands at some place
pub at_place : (xs : List ℕ) (x : ℕ) → Contains xs x → (k : ℕ) × (slice_get xs k ≡ Some x)
at_place xs x c = (c.0, slice_get-get_or xs c.0 x c.1 ∙ ap Some c.2)

pub distinct_from : (xs : List ℕ) → ((k m x : ℕ) → slice_get xs k ≡ Some x → slice_get xs m ≡ Some x → m ≡ k) → IsDistinct eqb xs
unfolding IsDistinct
distinct_from [] one = tt
distinct_from (x ∷ xs) one = (
  all_from (λ y. eqb x y ≡ false) xs (λ y c. elim (cases_Bool (eqb x y)) [
    | inl same ↦
        let found = at_place xs y c in
        let zero_is : suc found.0 ≡ 0 = one 0 (suc found.0) y (ap Some (eqb-true x y same)) found.1 in
        absurd (omega arith)
    | inr other ↦ other
  ]),
  distinct_from xs (λ k m y first second. let is : suc m ≡ suc k = one (suc k) (suc m) y first second in omega arith),
)

module _ (s : System) (order : List ℕ) where
  -- before any step
  empty_place : (count x : ℕ) (d : Option ℕ) → d ≡ None → slice_index_or (replicate count d) x None ≡ None
  empty_place zero x d is = refl
  empty_place (suc count) zero d is = is
  empty_place (suc count) (suc x) d is = empty_place count x d is

  pub none_placed : (places : List (Option ℕ)) (count : ℕ) (d : Option ℕ) → places ≡ replicate count d → d ≡ None → count ≡ step_count s → ArePlaces s order 0 places
  none_placed places count d are none all =
      let no_place : (x : ℕ) → place_in places x ≡ None = λ x. ap (λ ps. slice_index_or ps x None) are ∙ empty_place count x d none in
      record {
        one_each = ap length are ∙ length-replicate count d ∙ all;
        within = λ x k is. absurd (none-some k (sym (no_place x) ∙ is));
        standing = λ x k is. absurd (none-some k (sym (no_place x) ∙ is));
        placed = λ x k low at. absurd (omega arith);
        steps = λ x k low at. absurd (omega arith);
      }

  module _ (n x : ℕ) (old : List (Option ℕ)) (places : ArePlaces s order n old) (at : slice_get order n ≡ Some x) (new_one : IsUnplaced s old x) where
    abbrev pub new : List (Option ℕ)
    new = set old x (Some n)

    here : place_in new x ≡ Some n
    here = get_or-set_same old x (Some n) None (let low = new_one.low in let all = places.one_each in omega arith)

    elsewhere : (y : ℕ) → (y ≡ x → ⊥) → place_in new y ≡ place_in old y
    elsewhere y other = get_or-set_other old x y (Some n) None other

    -- a place in the new ones is the new one, or was there
    within_new : (y k : ℕ) → place_in new y ≡ Some k → k < n + 1
    within_new y k is = elim (cases_eq y x) [
      | inl same ↦ let k_is : n ≡ k = same_Some n k (sym here ∙ ap (place_in new) (sym same) ∙ is) in omega arith
      | inr other ↦ let lt = places.within y k (sym (elsewhere y other) ∙ is) in omega arith
    ]

    standing_new : (y k : ℕ) → place_in new y ≡ Some k → slice_get order k ≡ Some y
    standing_new y k is = elim (cases_eq y x) [
      | inl same ↦
          let k_is : n ≡ k = same_Some n k (sym here ∙ ap (place_in new) (sym same) ∙ is) in
          ap (slice_get order) (sym k_is) ∙ at ∙ ap Some (sym same)
      | inr other ↦ places.standing y k (sym (elsewhere y other) ∙ is)
    ]

    placed_new : (y k : ℕ) → k < n + 1 → slice_get order k ≡ Some y → place_in new y ≡ Some k
    placed_new y k lt is = elim (cases_lt k n) [
      | inl before ↦
          let was = places.placed y k before is in
          elsewhere y (λ same. none-some k (sym new_one.none ∙ ap (place_in old) (sym same) ∙ was)) ∙ was
      | inr after ↦
          let last : k ≡ n = omega arith in
          let same : y ≡ x = same_Some y x (sym is ∙ ap (slice_get order) last ∙ at) in
          ap (place_in new) same ∙ here ∙ ap Some (sym last)
    ]

    steps_new : (y k : ℕ) → k < n + 1 → slice_get order k ≡ Some y → IsTrue (is_step s y)
    steps_new y k lt is = elim (cases_lt k n) [
      | inl before ↦ places.steps y k before is
      | inr after ↦
          let last : k ≡ n = omega arith in
          let same : y ≡ x = same_Some y x (sym is ∙ ap (slice_get order) last ∙ at) in
          subst (λ z. IsTrue (is_step s z)) (sym same) new_one.step
    ]

    pub put_next : ArePlaces s order (n + 1) new
    put_next = record {
      one_each = length-set old x (Some n) ∙ places.one_each;
      within = within_new;
      standing = standing_new;
      placed = placed_new;
      steps = steps_new;
    }

-- ---- steps without a place
pub unplaced : (s : System) → IsFlat s → (places : List (Option ℕ)) (x : ℕ) → IsTrue (is_step s x) → place_in places x ≡ None → IsUnplaced s places x
unplaced s flat places x is_one none = record { step = is_one; low = step_low s flat x is_one; none = none }

pub unplaced_if : (s : System) → IsFlat s → (places : List (Option ℕ)) (x : ℕ) → IsTrue (is_step s x) → (r : Bool) → r ≡ is_none (place_in places x) → IsTrue r ↔ IsUnplaced s places x
unplaced_if s flat places x is_one r is = ((λ h. unplaced s flat places x is_one (none_from (place_in places x) (sym is ∙ h))), (λ one. is ∙ ap is_none one.none))
  where
    none_from : (slot : Option ℕ) → is_none slot ≡ true → slot ≡ None
    none_from None h = refl
    none_from (Some k) h = absurd (false≢true h)

pub no_step : (s : System) (places : List (Option ℕ)) (x : ℕ) → is_step s x ≡ false → IsTrue false ↔ IsUnplaced s places x
no_step s places x is = ((λ h. absurd (false≢true h)), (λ one. absurd (false≢true (sym is ∙ one.step))))

-- what is not such a step is no step, or stands there twice
pub not_unplaced : (s : System) → IsFlat s → (order : List ℕ) (n x : ℕ) (places : List (Option ℕ)) → ArePlaces s order n places → slice_get order n ≡ Some x → (IsUnplaced s places x → ⊥) → AreSteps s order → ⊥
not_unplaced s flat order n x places placed at refused are = with_place (place_in places x) refl
  where
    with_place : (slot : Option ℕ) → place_in places x ≡ slot → ⊥
    with_place None none = refused (unplaced s flat places x (are.steps x (contains_at order n x at)) none)
    with_place (Some k) is =
        let lt = placed.within x k is in
        let same = same_place order k n x are.once (placed.standing x k is) at in
        omega arith

-- ---- the steps that were gone through
module _ (s : System) (places : List (Option ℕ)) where
  abbrev pub StandBelow : ℕ → Type 0
  StandBelow n = (x : ℕ) → x < n → IsUnplaced s places x → ⊥

  pub stand_next : (n : ℕ) → StandBelow n → (IsUnplaced s places n → ⊥) → StandBelow (n + 1)
  stand_next n before last x lt one = elim (cases_lt x n) [
    | inl low ↦ before x low one
    | inr high ↦ let same : x ≡ n = omega arith in last (subst (IsUnplaced s places) same one)
  ]

  pub all_below : (n : ℕ) → step_count s ≤ n → StandBelow n → AllStand s places
  all_below n all below x one = let low = one.low in below x (omega arith) one
