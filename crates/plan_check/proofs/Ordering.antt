-- Places that tell whether an order has each step once and agrees with pairs.
use Rattle.std.proofs.Common.{◌≡◌, ℕ, ◌<◌, Bool, true, false, List, [], ◌∷◌, length, Option, Some, None, refl, sym, ap, subst, ◌∙◌, inl, inr, arith}
use Rattle.std.specs.Prelude.{◌↔◌, IsTrue}
use Rattle.std.specs.List.{Contains, list_all}
use Rattle.std.specs.Option.{option_map}
use Rattle.std.proofs.lemmas.Bool.{and_from, and_parts, false≢true, lt-ltb, ltb-true}
use Rattle.std.proofs.lemmas.Option.{none-some, same_Some, slice_get_within}
use Rattle.tsl_value.proofs.Lists.{cons_cases, contains_at, here, later, none_in_nil}
use Rattle.translation_order.specs.Graph.{Path, edge, step, IsAcyclic}
use Rattle.translation_order.specs.Order.{Before}
use Rattle.flat_core.specs.Complete.{IsFlat}
use Rattle.flat_core.specs.System.{System}
use Rattle.alias_rules.specs.Steps.{is_step, IsOrderBy, Precedes}
use Rattle.plan_check.specs.inner.Places.{is_before, place_in, stands_before, AllStand, ArePlaces, ArePlacesOrNone, AreSteps, IsWhole}
use Rattle.plan_check.proofs.Placing.{at_place, distinct_from, same_place, unplaced}

-- ---- pairs
pub each_passes : {A : Type 0} (p : A → Bool) (xs : List A) (x : A) → list_all p xs ≡ true → Contains xs x → p x ≡ true
each_passes p [] x all c = absurd (none_in_nil x c)
each_passes p (y ∷ xs) x all c =
    let parts = and_parts (p y) (list_all p xs) all in
    elim (cons_cases y x xs c) [ inl same ↦ subst (λ z. p z ≡ true) same parts.0 | inr rest ↦ each_passes p xs x parts.1 rest ]

pub all_pass : {A : Type 0} (p : A → Bool) (xs : List A) → ((x : A) → Contains xs x → p x ≡ true) → list_all p xs ≡ true
all_pass p [] each = refl
all_pass p (y ∷ xs) each = and_from (p y) (list_all p xs) (each y (here y xs)) (all_pass p xs (λ x c. each x (later y x xs c)))

-- two tests for places and pairs
pub whole_if : (s : System) (places : List (Option ℕ)) (pairs : List (ℕ × ℕ)) → AllStand s places → (r : Bool) → r ≡ list_all (λ (p : ℕ × ℕ). stands_before places p.0 p.1) pairs → IsTrue r ↔ IsWhole s places pairs
whole_if s places pairs stand r is = (
  (λ h. record { all_stand = stand; agree = λ a b c. each_passes test pairs (a, b) (sym is ∙ h) c }),
  (λ whole. is ∙ all_pass test pairs (λ p c. whole.agree p.0 p.1 c)),
)
  where
    test : ℕ × ℕ → Bool
    test p = stands_before places p.0 p.1

pub not_whole : (s : System) (places : List (Option ℕ)) (pairs : List (ℕ × ℕ)) (r : Bool) → r ≡ false → IsTrue r ↔ AllStand s places → IsTrue false ↔ IsWhole s places pairs
not_whole s places pairs r is so = ((λ h. absurd (false≢true h)), (λ whole. absurd (false≢true (sym is ∙ so.1 whole.all_stand))))

-- two places of which the second is later
record ArePlacedBefore (x y : Option ℕ) : Type 0 where
  pub first : ℕ
  pub second : ℕ
  pub first_is : x ≡ Some first
  pub second_is : y ≡ Some second
  pub is_before : first < second

before_from : (x y : Option ℕ) → IsTrue (is_before x y) → ArePlacedBefore x y
before_from (Some p) (Some q) h = record { first = p; second = q; first_is = refl; second_is = refl; is_before = ltb-true p q h }
before_from (Some p) None h = absurd (false≢true h)
before_from None y h = absurd (false≢true h)

module _ (s : System) (order : List ℕ) (places : List (Option ℕ)) (placed : ArePlaces s order (length order) places) where
  -- ---- places of the whole order
  pub steps_once : AreSteps s order
  steps_once = record {
    once = distinct_from order (λ k m x first second.
        same_Some m k (sym (placed.placed x m (slice_get_within order m x second) second) ∙ placed.placed x k (slice_get_within order k x first) first));
    steps = λ x c. let found = at_place order x c in placed.steps x found.0 (slice_get_within order found.0 x found.1) found.1;
  }

  stands : IsFlat s → AllStand s places → (x : ℕ) → IsTrue (is_step s x) → (slot : Option ℕ) → place_in places x ≡ slot → Contains order x
  stands flat all x is_one None none = absurd (all x (unplaced s flat places x is_one none))
  stands flat all x is_one (Some k) is = contains_at order k x (placed.standing x k is)

  precedes : (a b : ℕ) → IsTrue (stands_before places a b) → Precedes order a b
  precedes a b h =
      let before = before_from (place_in places a) (place_in places b) h in
      record {
        first = before.first;
        second = before.second;
        first_is = placed.standing a before.first before.first_is;
        second_is = placed.standing b before.second before.second_is;
        is_before = before.is_before;
      }

  placed_before : (a b : ℕ) → Precedes order a b → IsTrue (stands_before places a b)
  placed_before a b before =
      let first = placed.placed a before.first (slice_get_within order before.first a before.first_is) before.first_is in
      let second = placed.placed b before.second (slice_get_within order before.second b before.second_is) before.second_is in
      ap (λ x. is_before x (place_in places b)) first ∙ ap (is_before (Some before.first)) second ∙ lt-ltb before.first before.second before.is_before

  all_there : ((x : ℕ) → IsTrue (is_step s x) → Contains order x) → AllStand s places
  all_there has x one =
      let found = at_place order x (has x one.step) in
      none-some found.0 (sym one.none ∙ placed.placed x found.0 (slice_get_within order found.0 x found.1) found.1)

  ordered_from : IsFlat s → (pairs : List (ℕ × ℕ)) → IsWhole s places pairs → IsOrderBy s (Before pairs) order
  ordered_from flat pairs whole = record {
    once = steps_once.once;
    steps = λ x. (steps_once.steps x, λ is_one. stands flat whole.all_stand x is_one (place_in places x) refl);
    agrees = λ a b e. precedes a b (whole.agree a b e);
  }

  pub exactly_ordered : IsFlat s → (pairs : List (ℕ × ℕ)) (r : Bool) → IsTrue r ↔ IsWhole s places pairs → IsTrue r ↔ IsOrderBy s (Before pairs) order
  exactly_ordered flat pairs r so = (
    (λ h. ordered_from flat pairs (so.0 h)),
    (λ by. so.1 (record { all_stand = all_there (λ x. (by.steps x).1); agree = λ a b e. placed_before a b (by.agrees a b e) })),
  )

-- what has no places is no order
pub no_order : (s : System) (E : ℕ → ℕ → Type 0) (order : List ℕ) → (AreSteps s order → ⊥) → IsTrue false ↔ IsOrderBy s E order
no_order s E order none = ((λ h. absurd (false≢true h)), (λ by. absurd (none (record { once = by.once; steps = λ x. (by.steps x).0 }))))

-- ---- an order leaves no cycle
module _ (s : System) (E : ℕ → ℕ → Type 0) (order : List ℕ) (by : IsOrderBy s E order) where
  onward : (a b c : ℕ) → Precedes order a b → Precedes order b c → Precedes order a c
  onward a b c one two =
      let same = same_place order one.second two.first b by.once one.second_is two.first_is in
      let first = one.is_before in
      let second = two.is_before in
      record { first = one.first; second = two.second; first_is = one.first_is; second_is = two.second_is; is_before = omega arith }

  along : {a b : ℕ} → Path E a b → Precedes order a b
  along (edge {a} {b} e) = by.agrees a b e
  along (step {a} {b} {c} e p) = onward a b c (by.agrees a b e) (along p)

  pub acyclic : IsAcyclic E
  acyclic a around =
      let before = along around in
      let same = same_place order before.first before.second a by.once before.first_is before.second_is in
      let lt = before.is_before in
      omega arith

-- an order by one relation is one by another that is the same
pub same_order : (s : System) (E F : ℕ → ℕ → Type 0) (order : List ℕ) → ((a b : ℕ) → E a b ↔ F a b) → (r : Bool) → IsTrue r ↔ IsOrderBy s E order → IsTrue r ↔ IsOrderBy s F order
same_order s E F order exact r so =
    ((λ h. by_other E F (λ a b. (exact a b).1) (so.0 h)), (λ by. so.1 (by_other F E (λ a b. (exact a b).0) by)))
  where
    by_other : (E F : ℕ → ℕ → Type 0) → ((a b : ℕ) → F a b → E a b) → IsOrderBy s E order → IsOrderBy s F order
    by_other E F to by = record { once = by.once; steps = by.steps; agrees = λ a b f. by.agrees a b (to a b f) }

-- ---- the answer of a search for places, by what it is
pub placed_in : {V : Type 0} (items : V → List (Option ℕ)) (s : System) (listed order : List ℕ) (r : Option V) (v : V) → listed ≡ order → r ≡ Some v → ArePlacesOrNone s listed (option_map items r) → ArePlaces s order (length order) (items v)
placed_in items s listed order None v same is found = absurd (cc)
placed_in items s listed order (Some w) v same is found =
    subst (λ x. ArePlaces s order (length order) (items x)) (same_Some w v is) (subst (λ xs. ArePlaces s xs (length xs) (items w)) same found)

pub none_placed_in : {V : Type 0} (items : V → List (Option ℕ)) (s : System) (listed order : List ℕ) (r : Option V) → listed ≡ order → r ≡ None → ArePlacesOrNone s listed (option_map items r) → AreSteps s order → ⊥
none_placed_in items s listed order None same is none are = none (subst (AreSteps s) (sym same) are)
none_placed_in items s listed order (Some w) same is found are = absurd (cc)
