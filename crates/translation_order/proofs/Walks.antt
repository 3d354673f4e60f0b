-- The walk among the steps that are left.
use Rattle.std.proofs.Common.{◌≡◌, ℕ, ◌+◌, ◌-◌, ◌<◌, ◌≤◌, min, Bool, true, false, List, [], ◌∷◌, ◌++◌, length, get_or, set, take, drop, replicate, eqb, Contains, Option, Some, None, Result, Ok, Err, IfOk, refl, sym, ap, subst, ◌∙◌, inl, inr, get_or-set_same, get_or-set_other, length-set, take-append-drop, unwrap_or, le_trans, le_of_eq, arith}
use Rattle.std.proofs.lemmas.Bool.{cases_eq, cases_lt, false≢true}
use Rattle.std.proofs.lemmas.List.{length_push, drop_more, length-replicate, get_or-replicate, get_or_past, get_or_read, take_more, take_rest}
use Rattle.std.proofs.lemmas.List.Elements.{Contains-push, Contains-push_cases, Contains-append_left}
use Rattle.std.specs.List.{IsDistinct}
use Rattle.translation_order.specs.Least.{IsLeast}
use Rattle.translation_order.specs.Order.{Before, AreOfSteps, IsLeastOrder}
use Rattle.translation_order.specs.Cycle.{Through, IsTurned, Remains, RemainsBefore, IsCycleOfWalk}
use Rattle.translation_order.specs.inner.Taking.{is_one_of, IsTaken}
use Rattle.translation_order.specs.inner.Walking.{WaitsBefore, IsLeastBefore, AreLeastBefore, next_of, AreInside, HasWalked, Walked, lesser_of, Follows, IsWalkedCycle, IsWalking}
use Rattle.translation_order.proofs.Lists.{any_from_contains, contains_from_any, once_push, few_below}
use Rattle.translation_order.proofs.Circles.{through_join}
use Rattle.translation_order.proofs.Counts.{waiting_some, listed_push, listed_last}
use Rattle.translation_order.proofs.Takes.{first_low, remains_from, waits_from, order_from}

-- ---- the least waiting step before each
same_before : (pairs : List (ℕ × ℕ)) (p : ℕ × ℕ) (counts : List ℕ) (x : ℕ) (found : Option ℕ) → ((a : ℕ) → WaitsBefore (pairs ++ p ∷ []) counts x a → WaitsBefore pairs counts x a) → IsLeastBefore pairs counts x found → IsLeastBefore (pairs ++ p ∷ []) counts x found
same_before pairs p counts x None back h = λ a w. h a (back a w)
same_before pairs p counts x (Some m) back h = record {
  holds = record { waits = h.holds.waits; before = Contains-append_left pairs (p ∷ []) (m, x) h.holds.before };
  least = λ y w. h.least y (back y w);
}

lesser_before : (pairs : List (ℕ × ℕ)) (p : ℕ × ℕ) (counts : List ℕ) → 0 < get_or counts p.0 0 → (found : Option ℕ) → IsLeastBefore pairs counts p.1 found → IsLeastBefore (pairs ++ p ∷ []) counts p.1 (Some (lesser_of found p.0))
lesser_before pairs p counts some None h = record {
  holds = record { waits = some; before = Contains-push pairs p };
  least = λ y w. elim (Contains-push_cases pairs p (y, p.1) w.before) [
    | inl old ↦ absurd (h y (record { waits = w.waits; before = old }))
    | inr same ↦ let first : p.0 ≡ y = ap (λ (q : ℕ × ℕ). q.0) same in omega arith
  ];
}
lesser_before pairs p counts some (Some k) h =
    let low : (y : ℕ) → WaitsBefore (pairs ++ p ∷ []) counts p.1 y → min k p.0 ≤ y = λ y w. elim (Contains-push_cases pairs p (y, p.1) w.before) [
      | inl old ↦ let least = h.least y (record { waits = w.waits; before = old }) in omega arith
      | inr same ↦ let first : p.0 ≡ y = ap (λ (q : ℕ × ℕ). q.0) same in omega arith
    ] in
    elim (cases_lt k p.0) [
      | inl less ↦
          let is : k ≡ min k p.0 = omega arith in
          record {
            holds = subst (WaitsBefore (pairs ++ p ∷ []) counts p.1) is (record { waits = h.holds.waits; before = Contains-append_left pairs (p ∷ []) (k, p.1) h.holds.before });
            least = low;
          }
      | inr more ↦
          let is : p.0 ≡ min k p.0 = omega arith in
          record {
            holds = subst (WaitsBefore (pairs ++ p ∷ []) counts p.1) is (record { waits = some; before = Contains-push pairs p });
            least = low;
          }
    ]

pub least_more : (steps : ℕ) (pairs : List (ℕ × ℕ)) (p : ℕ × ℕ) (counts : List ℕ) (found : List (Option ℕ)) → p.1 < steps → 0 < get_or counts p.0 0 → AreLeastBefore steps pairs counts found → AreLeastBefore steps (pairs ++ p ∷ []) counts (set found p.1 (Some (lesser_of (get_or found p.1 None) p.0)))
least_more steps pairs p counts found below some l =
    let value : Option ℕ = Some (lesser_of (get_or found p.1 None) p.0) in
    record {
      one_each = length-set found p.1 value ∙ l.one_each;
      at = λ x low. elim (cases_eq x p.1) [
        | inl same ↦
            let long = l.one_each in
            let is : value ≡ get_or (set found p.1 value) p.1 None = sym (get_or-set_same found p.1 value None (omega arith)) in
            subst (λ y. IsLeastBefore (pairs ++ p ∷ []) counts y (get_or (set found p.1 value) y None)) (sym same) (subst (IsLeastBefore (pairs ++ p ∷ []) counts p.1) is (lesser_before pairs p counts some (get_or found p.1 None) (l.at p.1 below)))
        | inr other ↦
            subst (IsLeastBefore (pairs ++ p ∷ []) counts x) (sym (get_or-set_other found p.1 x value None other)) (same_before pairs p counts x (get_or found x None) (λ a w. elim (Contains-push_cases pairs p (a, x) w.before) [
              | inl old ↦ record { waits = w.waits; before = old }
              | inr is ↦ absurd (other (sym (ap (λ (q : ℕ × ℕ). q.1) is)))
            ]) (l.at x low))
      ];
    }

pub least_same_on : (steps : ℕ) (pairs : List (ℕ × ℕ)) (p : ℕ × ℕ) (counts : List ℕ) (found : List (Option ℕ)) → (0 < get_or counts p.0 0 → ⊥) → AreLeastBefore steps pairs counts found → AreLeastBefore steps (pairs ++ p ∷ []) counts found
least_same_on steps pairs p counts found none l = record {
  one_each = l.one_each;
  at = λ x low. same_before pairs p counts x (get_or found x None) (λ a w. elim (Contains-push_cases pairs p (a, x) w.before) [
    | inl old ↦ record { waits = w.waits; before = old }
    | inr is ↦ absurd (none (subst (λ m. 0 < get_or counts m 0) (sym (ap (λ (q : ℕ × ℕ). q.0) is)) w.waits))
  ]) (l.at x low);
}

pub least_at : (steps : ℕ) (pairs : List (ℕ × ℕ)) (i : ℕ) (counts : List ℕ) (found joined : List (Option ℕ)) (was : Option ℕ) (now : ℕ) → AreOfSteps steps pairs → i < length pairs → 0 < get_or counts (get_or pairs i (0, 0)).0 0 → AreLeastBefore steps (take i pairs) counts found → was ≡ get_or found (get_or pairs i (0, 0)).1 was → now ≡ lesser_of was (get_or pairs i (0, 0)).0 → joined ≡ set found (get_or pairs i (0, 0)).1 (Some now) → AreLeastBefore steps (take (i + 1) pairs) counts joined
least_at steps pairs i counts found joined was now of_steps lt some l is lesser set_is =
    let p = get_or pairs i (0, 0) in
    let low : p.1 < steps = (of_steps i (0, 0) lt).1 in
    let long = l.one_each in
    let value : was ≡ get_or found p.1 None = get_or_read found p.1 was (omega arith) is None in
    let all : joined ≡ set found p.1 (Some (lesser_of (get_or found p.1 None) p.0)) = set_is ∙ ap (λ n. set found p.1 (Some n)) (lesser ∙ ap (λ v. lesser_of v p.0) value) in
    subst (λ v. AreLeastBefore steps v counts joined) (sym (take_more pairs i (0, 0) lt)) (subst (AreLeastBefore steps (take i pairs ++ p ∷ []) counts) (sym all) (least_more steps (take i pairs) p counts found low some l))

pub least_at_same : (steps : ℕ) (pairs : List (ℕ × ℕ)) (i : ℕ) (counts : List ℕ) (found joined : List (Option ℕ)) → i < length pairs → get_or counts (get_or pairs i (0, 0)).0 0 ≤ 0 → AreLeastBefore steps (take i pairs) counts found → joined ≡ found → AreLeastBefore steps (take (i + 1) pairs) counts joined
least_at_same steps pairs i counts found joined lt none l is =
    let p = get_or pairs i (0, 0) in
    subst (λ v. AreLeastBefore steps v counts joined) (sym (take_more pairs i (0, 0) lt)) (subst (AreLeastBefore steps (take i pairs ++ p ∷ []) counts) (sym is) (least_same_on steps (take i pairs) p counts found (λ some. omega arith) l))

-- what is found is a step
next_inside : (steps : ℕ) (pairs : List (ℕ × ℕ)) (counts : List ℕ) → AreOfSteps steps pairs → (x : ℕ) (found : Option ℕ) → x < steps → IsLeastBefore pairs counts x found → unwrap_or found x < steps
next_inside steps pairs counts of_steps x None low h = low
next_inside steps pairs counts of_steps x (Some a) low h = first_low steps pairs of_steps a x h.holds.before

found_follows : (pairs : List (ℕ × ℕ)) (counts : List ℕ) (x : ℕ) (found : Option ℕ) → IsLeastBefore pairs counts x found → Follows pairs counts x (unwrap_or found x)
found_follows pairs counts x None h = λ b w. absurd (h b w)
found_follows pairs counts x (Some a) h = λ b w. h

-- ---- the walk
module _ (before : List (Option ℕ)) (start : ℕ) where
  pub walking_start : start < length before → IsWalking before start [] start (replicate (length before) false)
  unfolding IsDistinct
  walking_start low = record {
    one_each = length-replicate (length before) false;
    walked = refl;
    inside = low;
    once = tt;
    marks = λ x. elim (cases_lt x (length before)) [
      | inl lt ↦ get_or-replicate (length before) x false false lt
      | inr high ↦ get_or_past (replicate (length before) false) x false (le_trans (le_of_eq (length-replicate (length before) false)) high)
    ];
  }

  walked_push : (steps : List ℕ) (at : ℕ) → HasWalked before start steps at → HasWalked before start (steps ++ at ∷ []) (next_of before at)
  walked_push [] at h = (h, ap (next_of before) h)
  walked_push (x ∷ xs) at h = (h.0, through_join (λ a b. b ≡ next_of before a) start xs at [] (next_of before at) h.1 refl)

  module _ (steps : List ℕ) (at : ℕ) (seen : List Bool) (w : IsWalking before start steps at seen) where
    fresh : get_or seen at false ≡ false → Contains steps at → ⊥
    fresh unseen there = false≢true (sym unseen ∙ w.marks at ∙ any_from_contains steps at there)

    low : (x : ℕ) → Contains steps x → x < length before
    low x c = elim (cases_lt x (length before)) [
      | inl lt ↦ lt
      | inr high ↦ let long = w.one_each in absurd (false≢true (sym (get_or_past seen x false (omega arith)) ∙ w.marks x ∙ any_from_contains steps x c))
    ]

    pub walk_room : get_or seen at false ≡ false → length steps < length before
    walk_room unseen =
        let few = few_below (steps ++ at ∷ []) (length before) (once_push steps at w.once (fresh unseen)) (λ x c. elim (Contains-push_cases steps at x c) [
          | inl old ↦ low x old
          | inr same ↦ subst (λ m. m < length before) same w.inside
        ]) in
        let long = length_push steps at in
        omega arith

    pub walks_on : AreInside before → get_or seen at false ≡ false → IsWalking before start (steps ++ at ∷ []) (next_of before at) (set seen at true)
    walks_on inside unseen = record {
      one_each = length-set seen at true ∙ w.one_each;
      walked = walked_push steps at w.walked;
      inside = inside at w.inside;
      once = once_push steps at w.once (fresh unseen);
      marks = λ x. elim (cases_eq at x) [
        | inl same ↦
            let long = w.one_each in let within = w.inside in
            ap (λ j. get_or (set seen at true) j false) (sym same) ∙ get_or-set_same seen at true false (omega arith) ∙ sym (ap (is_one_of (steps ++ at ∷ [])) (sym same) ∙ listed_last steps at)
        | inr other ↦ get_or-set_other seen at x true false (λ e. other (sym e)) ∙ w.marks x ∙ sym (listed_push steps at x other)
      ];
    }

  walked_again : (steps : List ℕ) (at : ℕ) → HasWalked before start steps at → IsDistinct eqb steps → is_one_of steps at ≡ true → Walked before start steps at
  walked_again [] at h once there = absurd (false≢true there)
  walked_again (x ∷ xs) at h once there = record {
    rest = xs;
    is = ap (λ m. m ∷ xs) h.0;
    goes_on = h.1;
    once = once;
    there = contains_from_any (x ∷ xs) at there;
  }

  pub walked_end : (steps : List ℕ) (at : ℕ) (seen : List Bool) → IsWalking before start steps at seen → get_or seen at false ≡ true → Walked before start steps at
  walked_end steps at seen w again = walked_again steps at w.walked w.once (sym (w.marks at) ∙ again)

pub walking_init : (before : List (Option ℕ)) (start : ℕ) (steps : List ℕ) (seen : List Bool) (n : ℕ) → steps ≡ [] → seen ≡ replicate n false → n ≡ length before → start < length before → IsWalking before start steps start seen
walking_init before start steps seen n none marks is low =
    subst (λ v. IsWalking before start v start seen) (sym none) (subst (IsWalking before start [] start) (sym (marks ∙ ap (λ m. replicate m false) is)) (walking_start before start low))

pub walking_more : (before : List (Option ℕ)) (start : ℕ) (steps : List ℕ) (at : ℕ) (seen : List Bool) (longer : List ℕ) (next : ℕ) → IsWalking before start steps at seen → AreInside before → get_or seen at false ≡ false → longer ≡ steps ++ at ∷ [] → next ≡ next_of before at → IsWalking before start longer next (set seen at true)
walking_more before start steps at seen longer next w inside unseen pushed is =
    subst (λ v. IsWalking before start v next (set seen at true)) (sym pushed) (subst (λ m. IsWalking before start (steps ++ at ∷ []) m (set seen at true)) (sym is) (walks_on before start steps at seen w inside unseen))

-- ---- the cycle
pub walked_cycle_from : (pairs : List (ℕ × ℕ)) (counts : List ℕ) (steps : ℕ) (found : List (Option ℕ)) → AreOfSteps steps pairs → AreLeastBefore steps pairs counts found → (start : ℕ) → start < steps → (walk : List ℕ) (again place : ℕ) → Walked found start walk again → place < length walk → get_or walk place 0 ≡ again → (cycle : List ℕ) → IsTurned (drop place walk) cycle → IsWalkedCycle pairs counts start cycle
walked_cycle_from pairs counts steps found of_steps l start low walk again place w lt is cycle turned =
    let ending : drop place walk ≡ again ∷ drop (place + 1) walk = drop_more walk place 0 lt ∙ ap (λ m. m ∷ drop (place + 1) walk) is in
    record {
      rest = w.rest;
      again = again;
      goes_on = follows start w.rest again low w.goes_on;
      once = subst (IsDistinct eqb) w.is w.once;
      front = take place walk;
      back = drop (place + 1) walk;
      around = sym w.is ∙ sym (take-append-drop place walk) ∙ ap (λ v. take place walk ++ v) ending;
      turned = subst (λ v. IsTurned v cycle) ending turned;
    }
  where
    follows : (x : ℕ) (xs : List ℕ) (b : ℕ) → x < steps → Through (λ a b. b ≡ next_of found a) x xs b → Through (Follows pairs counts) x xs b
    follows x [] b low h = subst (Follows pairs counts x) (sym h) (found_follows pairs counts x (get_or found x None) (l.at x low))
    follows x (y ∷ ys) b low h =
        let inside : y < steps = subst (λ m. m < steps) (sym h.0) (next_inside steps pairs counts of_steps x (get_or found x None) low (l.at x low)) in
        (subst (Follows pairs counts x) (sym h.0) (found_follows pairs counts x (get_or found x None) (l.at x low)), follows y ys b inside h.1)

module _ (steps : ℕ) (pairs : List (ℕ × ℕ)) (of_steps : AreOfSteps steps pairs) (listed counts : List ℕ) (t : IsTaken steps pairs listed counts) where
  remains_before : (x a : ℕ) → WaitsBefore pairs counts x a → RemainsBefore steps (Before pairs) x a
  remains_before x a w = record { remains = remains_from steps pairs of_steps listed counts t a (first_low steps pairs of_steps a x w.before) w.waits; before = w.before }

  waits_before : (x a : ℕ) → RemainsBefore steps (Before pairs) x a → WaitsBefore pairs counts x a
  waits_before x a r = record { waits = waits_from steps pairs of_steps listed counts t a r.remains; before = r.before }

  -- a step that is left waits for one that is left
  some_before : (x : ℕ) → Remains steps (Before pairs) x → (a : ℕ) × WaitsBefore pairs counts x a
  some_before x r =
      let waits = waits_from steps pairs of_steps listed counts t x r in
      let is = t.waits.at x r.is_step in
      let found = waiting_some listed pairs x (omega arith) in
      let low = first_low steps pairs of_steps found.0 x found.1 in (
        found.0,
        record {
          waits = elim (cases_eq (get_or counts found.0 0) 0) [
            | inl nothing ↦ absurd (false≢true (sym found.2 ∙ t.listed_all found.0 low nothing))
            | inr some ↦ omega arith
          ];
          before = found.1;
        },
      )

  next_remaining : (x a : ℕ) → Remains steps (Before pairs) x → Follows pairs counts x a → IsLeast (RemainsBefore steps (Before pairs) x) a
  next_remaining x a r f =
      let some = some_before x r in
      let least = f some.0 some.1 in
      record { holds = remains_before x a least.holds; least = λ y r. least.least y (waits_before x y r) }

  walks_among : (x : ℕ) (xs : List ℕ) (b : ℕ) → Remains steps (Before pairs) x → Through (Follows pairs counts) x xs b → Through (λ x a. IsLeast (RemainsBefore steps (Before pairs) x) a) x xs b
  walks_among x [] b r h = next_remaining x b r h
  walks_among x (y ∷ ys) b r h = let next = next_remaining x y r h.0 in (next, walks_among y ys b next.holds.remains h.1)

  -- what the code walks is the walk
  pub cycle_of_walk : (start : ℕ) → IsLeast (λ x. 0 < get_or counts x 0) start → (cycle : List ℕ) → IsWalkedCycle pairs counts start cycle → IsCycleOfWalk steps (Before pairs) cycle
  cycle_of_walk start least cycle c =
      let low : start < steps = start_low start least.holds in
      let remains = remains_from steps pairs of_steps listed counts t start low least.holds in
      record {
        first = start;
        rest = c.rest;
        again = c.again;
        walk = record {
          begins = record { holds = remains; least = λ y r. least.least y (waits_from steps pairs of_steps listed counts t y r) };
          goes_on = walks_among start c.rest c.again remains c.goes_on;
          once = c.once;
        };
        front = c.front;
        back = c.back;
        around = c.around;
        turned = c.turned;
      }
    where
      start_low : (x : ℕ) → 0 < get_or counts x 0 → x < steps
      start_low x some = elim (cases_lt x steps) [
        | inl lt ↦ lt
        | inr high ↦ let long = t.waits.one_each in let past = get_or_past counts x 0 (omega arith) in absurd (omega arith)
      ]

-- ---- what the code has at hand
pub cycle_answer : {E : Type 0} (pairs : List (ℕ × ℕ)) (counts : List ℕ) (found before : List (Option ℕ)) (start : ℕ) (walk steps : List ℕ) (again place : ℕ) (r : Result (List ℕ) E) → AreOfSteps (length counts) pairs → AreLeastBefore (length counts) pairs counts found → before ≡ found → start < length counts → Walked before start walk again → steps ≡ walk → place < length steps → get_or steps place 0 ≡ again → IfOk r (IsTurned (take (length steps - place) (drop place steps))) → IfOk r (IsWalkedCycle pairs counts start)
cycle_answer pairs counts found before start walk steps again place (Ok cycle) of_steps l same low w is lt at turned =
    let ending : take (length steps - place) (drop place steps) ≡ drop place walk = take_rest steps place ∙ ap (drop place) is in
    let long : length steps ≡ length walk = ap length is in
    let value : get_or walk place 0 ≡ again = ap (λ v. get_or v place 0) (sym is) ∙ at in
    walked_cycle_from pairs counts (length counts) found of_steps l start low walk again place (subst (λ b. Walked b start walk again) same w) (omega arith) value cycle (subst (λ v. IsTurned v cycle) ending turned)
cycle_answer pairs counts found before start walk steps again place (Err e) of_steps l same low w is lt at turned = tt

pub order_found : (steps : ℕ) (pairs read : List (ℕ × ℕ)) (listed counts seen : List ℕ) → AreOfSteps steps pairs → read ≡ pairs → seen ≡ counts → IsTaken steps read listed counts → ((x : ℕ) → get_or seen x 0 ≡ 0) → IsLeastOrder steps (Before pairs) listed
order_found steps pairs read listed counts seen of_steps same whole t none =
    order_from steps pairs of_steps listed counts (subst (λ p. IsTaken steps p listed counts) same t) (λ x. ap (λ v. get_or v x 0) (sym whole) ∙ none x)

pub cycle_found : (steps : ℕ) (pairs read again : List (ℕ × ℕ)) (listed counts seen passed : List ℕ) (start : ℕ) (cycle : List ℕ) → AreOfSteps steps pairs → read ≡ pairs → again ≡ pairs → seen ≡ counts → passed ≡ counts → IsTaken steps read listed counts → IsLeast (λ x. 0 < get_or seen x 0) start → IsWalkedCycle again passed start cycle → IsCycleOfWalk steps (Before pairs) cycle
cycle_found steps pairs read again listed counts seen passed start cycle of_steps same same_again whole whole_passed t least c =
    cycle_of_walk steps pairs of_steps listed counts (subst (λ p. IsTaken steps p listed counts) same t) start (subst (λ v. IsLeast (λ x. 0 < get_or v x 0) start) whole least) cycle (subst (λ v. IsWalkedCycle pairs v start cycle) whole_passed (subst (λ p. IsWalkedCycle p passed start cycle) same_again c))
