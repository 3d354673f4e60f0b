-- Taking steps away, one by one.
use Rattle.std.proofs.Common.{◌≡◌, ◌==◌, ℕ, ◌+◌, ◌-◌, ◌<◌, ◌≤◌, Bool, true, false, cond, not, ◌&&◌, ◌||◌, List, [], ◌∷◌, ◌++◌, length, get_or, set, take, eqb, nat_lt, nat_cmp, Less, Equal, Greater, is_eq, Contains, BTreeSet, sym, ap, subst, ◌∙◌, inl, inr, get_or-set_same, get_or-set_other, length-set, arith}
use Rattle.std.proofs.lemmas.Bool.{cases_Bool, cases_eq, cases_order, cases_lt, or_cases, and_parts, and_from, and_left, and_right, or_right, or_from, not-true, not_from_false, not_from_true, false≢true, true≢false, eqb-true, eq-eqb, ne_eqb, lt-ltb, ltb-true, false_from_ne_true}
use Rattle.std.proofs.lemmas.List.{take_more, get_or_read}
use Rattle.std.proofs.lemmas.List.Elements.{All-contains, Contains-append_left, Contains-get_or}
use Rattle.std.proofs.lemmas.Map.Keys.{le_from_not_gt}
use Rattle.std.specs.Cmp.{nat_cmp_is}
use Rattle.std.specs.BTreeSet as tree
use Rattle.translation_order.specs.Least.{IsLeast}
use Rattle.translation_order.specs.Order.{Before, AreOfSteps, MayFollow, TakesLeast, IsLeastOrder}
use Rattle.translation_order.specs.Cycle.{CanBeTaken, taken, Remains}
use Rattle.translation_order.specs.inner.Taking.{one_if, is_one_of, times, seconds_of, waiting, AreSeconds, AreWaits, AreReleased, IsTaking, IsTaken}
use Rattle.tsl_value.proofs.Lists.{here, later}
use Rattle.translation_order.proofs.Lists.{any_from_contains, contains_from_any, split_at}
use Rattle.translation_order.proofs.Orders.{takes_push, room_for, can_be_taken}
use Rattle.translation_order.proofs.Counts.{or_none, times_some, times_none, times_push, times_room, listed_push, listed_last, waiting_listed, waiting_zero, waiting_none}

same_test : (a x : ℕ) → a ≡ x → is_eq (nat_cmp a x) ≡ true
same_test a x same = ap is_eq (sym (nat_cmp_is a x Equal same))

other_test : (a x : ℕ) → (a ≡ x → ⊥) → is_eq (nat_cmp a x) ≡ false
other_test a x other = elim (cases_order a x) [
  | inl same ↦ absurd (other same)
  | inr (inl less) ↦ ap is_eq (sym (nat_cmp_is a x Less less))
  | inr (inr more) ↦ ap is_eq (sym (nat_cmp_is a x Greater more))
]

-- a set after one number came in or went
updated : (before after : BTreeSet ℕ) (k : ℕ) (b : Bool) → tree.Updates nat_cmp before after k b → (x : ℕ) → k ≡ x → tree.contains nat_cmp after x ≡ b
updated before after k b u x same = u.0 x ∙ ap (λ t. cond t b (tree.contains nat_cmp before x)) (same_test k x same)

kept : (before after : BTreeSet ℕ) (k : ℕ) (b : Bool) → tree.Updates nat_cmp before after k b → (x : ℕ) → (k ≡ x → ⊥) → tree.contains nat_cmp after x ≡ tree.contains nat_cmp before x
kept before after k b u x other = u.2 x (other_test k x other)

-- ---- steps that are released
module _ (steps old counts : List ℕ) (before free : BTreeSet ℕ) (r : AreReleased steps old counts before free) (b : ℕ) (below : b < length counts) (some : 0 < get_or counts b 0) where
  abbrev less : List ℕ
  less = set counts b (get_or counts b 0 - 1)

  here_less : (x : ℕ) → b ≡ x → get_or less x 0 ≡ get_or counts b 0 - 1
  here_less x same = ap (λ j. get_or less j 0) (sym same) ∙ get_or-set_same counts b (get_or counts b 0 - 1) 0 below

  other_less : (x : ℕ) → (b ≡ x → ⊥) → get_or less x 0 ≡ get_or counts x 0
  other_less x other = get_or-set_other counts b x (get_or counts b 0 - 1) 0 (λ e. other (sym e))

  waits_less : (x : ℕ) → get_or old x 0 ≡ get_or less x 0 + times x (steps ++ b ∷ [])
  waits_less x = let was = r.waits x in let push = times_push x steps b in elim (cases_eq b x) [
    | inl same ↦
        let value = here_less x same in
        let one : one_if (eqb x b) ≡ 1 = ap one_if (eq-eqb x b (sym same)) in
        let at : get_or counts b 0 ≡ get_or counts x 0 = ap (λ j. get_or counts j 0) same in
        omega arith
    | inr other ↦
        let value = other_less x other in
        let none : one_if (eqb x b) ≡ 0 = ap one_if (ne_eqb x b (λ e. other (sym e))) in
        omega arith
  ]

  -- what was free before, where the step itself waited
  was_here : (x : ℕ) → b ≡ x → tree.contains nat_cmp free x ≡ tree.contains nat_cmp before x
  was_here x same =
      let waits : 0 < get_or counts x 0 = subst (λ j. 0 < get_or counts j 0) same some in
      r.freed x ∙ ap (λ t. tree.contains nat_cmp before x || t) (and_right (is_one_of steps x) (get_or counts x 0 == 0) (ne_eqb (get_or counts x 0) 0 (λ z. omega arith))) ∙ or_none (tree.contains nat_cmp before x)

  others_freed : (x : ℕ) → (b ≡ x → ⊥) → tree.contains nat_cmp free x ≡ (tree.contains nat_cmp before x || (is_one_of (steps ++ b ∷ []) x && (get_or less x 0 == 0)))
  others_freed x other = r.freed x ∙ ap (λ t. tree.contains nat_cmp before x || (t && (get_or counts x 0 == 0))) (sym (listed_push steps b x other)) ∙ ap (λ n. tree.contains nat_cmp before x || (is_one_of (steps ++ b ∷ []) x && (n == 0))) (sym (other_less x other))

  -- the last pair that the step waited for
  pub release_last : (after : BTreeSet ℕ) → tree.Updates nat_cmp free after b true → get_or counts b 0 - 1 ≡ 0 → AreReleased (steps ++ b ∷ []) old less before after
  release_last after u is_zero = record {
    same_length = length-set counts b (get_or counts b 0 - 1) ∙ r.same_length;
    waits = waits_less;
    freed = λ x. elim (cases_eq b x) [
      | inl same ↦
          updated free after b true u x same
          ∙ sym (or_right (tree.contains nat_cmp before x) (is_one_of (steps ++ b ∷ []) x && (get_or less x 0 == 0)) (and_from (is_one_of (steps ++ b ∷ []) x) (get_or less x 0 == 0) (ap (is_one_of (steps ++ b ∷ [])) (sym same) ∙ listed_last steps b) (eq-eqb (get_or less x 0) 0 (here_less x same ∙ is_zero))))
      | inr other ↦ kept free after b true u x other ∙ others_freed x other
    ];
  }

  -- not the last one
  pub release_one : (get_or counts b 0 - 1 ≡ 0 → ⊥) → AreReleased (steps ++ b ∷ []) old less before free
  release_one more = record {
    same_length = length-set counts b (get_or counts b 0 - 1) ∙ r.same_length;
    waits = waits_less;
    freed = λ x. elim (cases_eq b x) [
      | inl same ↦
          was_here x same
          ∙ sym (or_none (tree.contains nat_cmp before x))
          ∙ ap (λ t. tree.contains nat_cmp before x || t) (sym (and_right (is_one_of (steps ++ b ∷ []) x) (get_or less x 0 == 0) (ne_eqb (get_or less x 0) 0 (λ z. more (sym (here_less x same) ∙ z)))))
      | inr other ↦ others_freed x other
    ];
  }

pub released_last : (steps old counts : List ℕ) (before free after joined : BTreeSet ℕ) (i : ℕ) → i < length steps → AreReleased (take i steps) old counts before free → get_or steps i 0 < length counts → 0 < get_or counts (get_or steps i 0) 0 → tree.Updates nat_cmp free after (get_or steps i 0) true → get_or counts (get_or steps i 0) 0 - 1 ≡ 0 → joined ≡ after → AreReleased (take (i + 1) steps) old (set counts (get_or steps i 0) (get_or counts (get_or steps i 0) 0 - 1)) before joined
released_last steps old counts before free after joined i lt r below some u is_zero is =
    let b = get_or steps i 0 in
    let value = set counts b (get_or counts b 0 - 1) in
    subst (λ v. AreReleased v old value before joined) (sym (take_more steps i 0 lt)) (subst (AreReleased (take i steps ++ b ∷ []) old value before) (sym is) (release_last (take i steps) old counts before free r b below some after u is_zero))

pub released_one : (steps old counts : List ℕ) (before free joined : BTreeSet ℕ) (i : ℕ) → i < length steps → AreReleased (take i steps) old counts before free → get_or steps i 0 < length counts → 0 < get_or counts (get_or steps i 0) 0 → (get_or counts (get_or steps i 0) 0 - 1 ≡ 0 → ⊥) → joined ≡ free → AreReleased (take (i + 1) steps) old (set counts (get_or steps i 0) (get_or counts (get_or steps i 0) 0 - 1)) before joined
released_one steps old counts before free joined i lt r below some more is =
    let b = get_or steps i 0 in
    let value = set counts b (get_or counts b 0 - 1) in
    subst (λ v. AreReleased v old value before joined) (sym (take_more steps i 0 lt)) (subst (AreReleased (take i steps ++ b ∷ []) old value before) (sym is) (release_one (take i steps) old counts before free r b below some more))

-- the step at hand still waits
pub still_waits : (steps old counts : List ℕ) (before free : BTreeSet ℕ) (i : ℕ) → i < length steps → AreReleased (take i steps) old counts before free → ((x : ℕ) → times x steps ≤ get_or old x 0) → 0 < get_or counts (get_or steps i 0) 0
still_waits steps old counts before free i lt r enough = let b = get_or steps i 0 in let all = enough b in let was = r.waits b in let room = times_room steps i lt in omega arith

seconds_before : (pairs : List (ℕ × ℕ)) (a x : ℕ) → is_one_of (seconds_of pairs a) x ≡ true → Before pairs a x
seconds_before [] a x h = absurd (false≢true h)
seconds_before (p ∷ pairs) a x h = elim (cases_Bool (eqb a p.0)) [
  | inl same ↦
      let more : is_one_of (p.1 ∷ seconds_of pairs a) x ≡ true = ap (λ b. is_one_of (cond b (p.1 ∷ seconds_of pairs a) (seconds_of pairs a)) x) (sym same) ∙ h in
      let first : p.0 ≡ a = sym (eqb-true a p.0 same) in
      elim (or_cases (eqb x p.1) (is_one_of (seconds_of pairs a) x) more) [
        | inl at ↦ subst (Contains (p ∷ pairs)) (λ i. (first i, sym (eqb-true x p.1 at) i)) (here p pairs)
        | inr rest ↦ later p (a, x) pairs (seconds_before pairs a x rest)
      ]
  | inr other ↦
      let more : is_one_of (seconds_of pairs a) x ≡ true = ap (λ b. is_one_of (cond b (p.1 ∷ seconds_of pairs a) (seconds_of pairs a)) x) (sym other) ∙ h in
      later p (a, x) pairs (seconds_before pairs a x more)
]

-- ---- steps that are taken away
module _ (steps : ℕ) (pairs : List (ℕ × ℕ)) (of_steps : AreOfSteps steps pairs) where
  pub first_low : (a b : ℕ) → Before pairs a b → a < steps
  first_low a b c = (All-contains (λ p. (p.0 < steps) × (p.1 < steps)) pairs (a, b) of_steps c).0

  second_low : (a b : ℕ) → Before pairs a b → b < steps
  second_low a b c = (All-contains (λ p. (p.0 < steps) × (p.1 < steps)) pairs (a, b) of_steps c).1

  module _ (listed counts : List ℕ) (takes : TakesLeast steps (Before pairs) listed) (w : AreWaits steps pairs listed counts) where
    -- a listed step waits for nothing
    listed_waits : (x : ℕ) → is_one_of listed x ≡ true → waiting listed pairs x ≡ 0
    listed_waits x there =
        let parts = split_at listed x (contains_from_any listed x there) in
        let may = (takes parts.0 parts.1 x parts.2).holds in
        waiting_none listed pairs x (λ a c. any_from_contains listed a (subst (λ l. Contains l a) (sym parts.2) (Contains-append_left parts.0 (x ∷ parts.1) a (may.is_free a c))))

  module _ (listed counts : List ℕ) (free : BTreeSet ℕ) (t : IsTaking steps pairs listed counts free) where
    pub may_follow : (x : ℕ) → tree.contains nat_cmp free x ≡ true → MayFollow steps (Before pairs) listed x
    may_follow x c =
        let all = and_parts (nat_lt x steps) (not (is_one_of listed x) && (get_or counts x 0 == 0)) (sym (t.are_free x) ∙ c) in
        let rest = and_parts (not (is_one_of listed x)) (get_or counts x 0 == 0) all.1 in
        let low = ltb-true x steps all.0 in
        let new = not-true (is_one_of listed x) rest.0 in
        let is_zero : waiting listed pairs x ≡ 0 = sym (t.waits.at x low) ∙ eqb-true (get_or counts x 0) 0 rest.1 in
        record {
          is_step = low;
          is_new = λ there. true≢false (sym (any_from_contains listed x there) ∙ new);
          is_free = λ a c. contains_from_any listed a (waiting_zero listed pairs x is_zero a c);
        }

    pub is_free_from : (x : ℕ) → MayFollow steps (Before pairs) listed x → tree.contains nat_cmp free x ≡ true
    is_free_from x may =
        let new : is_one_of listed x ≡ false = false_from_ne_true (is_one_of listed x) (λ h. may.is_new (contains_from_any listed x h)) in
        let is_zero : get_or counts x 0 ≡ 0 = t.waits.at x may.is_step ∙ waiting_none listed pairs x (λ a c. any_from_contains listed a (may.is_free a c)) in
        t.are_free x ∙ and_from (nat_lt x steps) (not (is_one_of listed x) && (get_or counts x 0 == 0)) (lt-ltb x steps may.is_step) (and_from (not (is_one_of listed x)) (get_or counts x 0 == 0) (not_from_false (is_one_of listed x) new) (eq-eqb (get_or counts x 0) 0 is_zero))

    module _ (a : ℕ) (there : tree.contains nat_cmp free a ≡ true) (bound : tree.IsLowerBound nat_cmp free a) where
      pub next_is_least : IsLeast (MayFollow steps (Before pairs) listed) a
      next_is_least = record { holds = may_follow a there; least = λ y may. le_from_not_gt a y (bound y (is_free_from y may)) }

      pub next_low : a < steps
      next_low = (may_follow a there).is_step

      pub has_room : length listed < steps
      has_room = room_for steps (Before pairs) listed a t.takes_least (may_follow a there)

      new : is_one_of listed a ≡ false
      new = false_from_ne_true (is_one_of listed a) (λ h. (may_follow a there).is_new (contains_from_any listed a h))

      a_waits : get_or counts a 0 ≡ 0
      a_waits =
          let may = may_follow a there in
          t.waits.at a may.is_step ∙ waiting_none listed pairs a (λ z c. any_from_contains listed z (may.is_free z c))

      not_second : (x : ℕ) → steps ≤ x → is_one_of (seconds_of pairs a) x ≡ false
      not_second x high = false_from_ne_true (is_one_of (seconds_of pairs a) x) (λ h. let low = second_low a x (seconds_before pairs a x h) in absurd (omega arith))

      -- each step after this one waits for it
      pub enough : (x : ℕ) → times x (seconds_of pairs a) ≤ get_or counts x 0
      enough x = elim (cases_lt x steps) [
        | inl low ↦ let was = t.waits.at x low in let now = waiting_listed listed a new pairs x in omega arith
        | inr high ↦ let none = times_none x (seconds_of pairs a) (not_second x high) in omega arith
      ]

      module _ (less : List ℕ) (rest after : BTreeSet ℕ) (out : tree.Updates nat_cmp free rest a false) (r : AreReleased (seconds_of pairs a) counts less rest after) where
        abbrev on : List ℕ
        on = listed ++ a ∷ []

        abbrev test : ℕ → Bool
        test x = nat_lt x steps && (not (is_one_of on x) && (get_or less x 0 == 0))

        freed_self : (x : ℕ) → a ≡ x → tree.contains nat_cmp after x ≡ test x
        freed_self x same =
            let waits : get_or counts x 0 ≡ 0 = ap (λ j. get_or counts j 0) (sym same) ∙ a_waits in
            let was = r.waits x in
            let not_after : is_one_of (seconds_of pairs a) x ≡ false = false_from_ne_true (is_one_of (seconds_of pairs a) x) (λ h. let some = times_some x (seconds_of pairs a) h in absurd (omega arith)) in
            let gone : tree.contains nat_cmp rest x ≡ false = updated free rest a false out x same in
            let listed_now : is_one_of on x ≡ true = ap (is_one_of on) (sym same) ∙ listed_last listed a in
            r.freed x ∙ or_from (tree.contains nat_cmp rest x) (is_one_of (seconds_of pairs a) x && (get_or less x 0 == 0)) gone (and_left (is_one_of (seconds_of pairs a) x) (get_or less x 0 == 0) not_after)
            ∙ sym (and_right (nat_lt x steps) (not (is_one_of on x) && (get_or less x 0 == 0)) (and_left (not (is_one_of on x)) (get_or less x 0 == 0) (not_from_true (is_one_of on x) listed_now)))

        freed_apart : (x : ℕ) → (a ≡ x → ⊥) → is_one_of (seconds_of pairs a) x ≡ false → tree.contains nat_cmp after x ≡ test x
        freed_apart x other not_after =
            let was = r.waits x in
            let none = times_none x (seconds_of pairs a) not_after in
            let same : get_or counts x 0 ≡ get_or less x 0 = omega arith in
            r.freed x
            ∙ ap (λ b. tree.contains nat_cmp rest x || b) (and_left (is_one_of (seconds_of pairs a) x) (get_or less x 0 == 0) not_after)
            ∙ or_none (tree.contains nat_cmp rest x)
            ∙ kept free rest a false out x other
            ∙ t.are_free x
            ∙ ap (λ n. nat_lt x steps && (not (is_one_of listed x) && (n == 0))) same
            ∙ ap (λ b. nat_lt x steps && (not b && (get_or less x 0 == 0))) (sym (listed_push listed a x other))

        freed_after : (x : ℕ) → (a ≡ x → ⊥) → is_one_of (seconds_of pairs a) x ≡ true → tree.contains nat_cmp after x ≡ test x
        freed_after x other follows =
            let low = second_low a x (seconds_before pairs a x follows) in
            let was = r.waits x in
            let some = times_some x (seconds_of pairs a) follows in
            let waits : 0 < get_or counts x 0 = omega arith in
            let not_free : tree.contains nat_cmp free x ≡ false = t.are_free x ∙ and_right (nat_lt x steps) (not (is_one_of listed x) && (get_or counts x 0 == 0)) (and_right (not (is_one_of listed x)) (get_or counts x 0 == 0) (ne_eqb (get_or counts x 0) 0 (λ z. omega arith))) in
            let not_listed : is_one_of listed x ≡ false = false_from_ne_true (is_one_of listed x) (λ h. let is_zero = listed_waits listed counts t.takes_least t.waits x h in let is = t.waits.at x low in absurd (omega arith)) in
            let not_on : is_one_of on x ≡ false = listed_push listed a x other ∙ not_listed in
            r.freed x
            ∙ ap (λ b. b || (is_one_of (seconds_of pairs a) x && (get_or less x 0 == 0))) (kept free rest a false out x other ∙ not_free)
            ∙ ap (λ b. b && (get_or less x 0 == 0)) follows
            ∙ sym (ap (λ b. nat_lt x steps && (not b && (get_or less x 0 == 0))) not_on ∙ ap (λ b. b && (get_or less x 0 == 0)) (lt-ltb x steps low))

        -- one step more is taken away
        pub takes_on : IsTaking steps pairs on less after
        takes_on = record {
          takes_least = takes_push steps (Before pairs) listed a t.takes_least next_is_least;
          waits = record {
            one_each = r.same_length ∙ t.waits.one_each;
            at = λ x low. let was = t.waits.at x low in let now = waiting_listed listed a new pairs x in let gone = r.waits x in omega arith;
          };
          are_free = λ x. elim (cases_eq a x) [
            | inl same ↦ freed_self x same
            | inr other ↦ elim (cases_Bool (is_one_of (seconds_of pairs a) x)) [
              | inl follows ↦ freed_after x other follows
              | inr not_after ↦ freed_apart x other not_after
            ]
          ];
        }

  -- ---- what is left
  module _ (listed counts : List ℕ) (t : IsTaken steps pairs listed counts) where
    -- what can be taken away waits for nothing
    taken_waits : (x : ℕ) → CanBeTaken (Before pairs) x → x < steps → get_or counts x 0 ≡ 0
    taken_waits x (taken before) low = t.waits.at x low ∙ waiting_none listed pairs x (λ a c. let a_low = first_low a x c in t.listed_all a a_low (taken_waits a (before a c) a_low))

    pub remains_from : (x : ℕ) → x < steps → 0 < get_or counts x 0 → Remains steps (Before pairs) x
    remains_from x low some = record { is_step = low; stays = λ can. let is_zero = taken_waits x can low in absurd (omega arith) }

    pub waits_from : (x : ℕ) → Remains steps (Before pairs) x → 0 < get_or counts x 0
    waits_from x r = elim (cases_eq (get_or counts x 0) 0) [
      | inl is_zero ↦ absurd (r.stays (can_be_taken steps (Before pairs) listed t.takes_least x (contains_from_any listed x (t.listed_all x r.is_step is_zero))))
      | inr some ↦ omega arith
    ]

    pub order_from : ((x : ℕ) → get_or counts x 0 ≡ 0) → IsLeastOrder steps (Before pairs) listed
    order_from none = record { takes_least = t.takes_least; all = λ x low. contains_from_any listed x (t.listed_all x low (none x)) }

-- ---- what the code has at hand
module _ (steps : ℕ) (pairs : List (ℕ × ℕ)) (of_steps : AreOfSteps steps pairs) (listed counts : List ℕ) (free : BTreeSet ℕ) (t : IsTaking steps pairs listed counts free) (a : ℕ) (there : tree.contains nat_cmp free a ≡ true) (bound : tree.IsLowerBound nat_cmp free a) where
  -- the list that was read has the seconds of the step
  pub what_follows_is : (seconds : List (List ℕ)) (read now : List ℕ) → AreSeconds steps pairs seconds → read ≡ get_or seconds a read → now ≡ read → now ≡ seconds_of pairs a
  what_follows_is seconds read now s is same =
      let low = next_low steps pairs of_steps listed counts free t a there bound in
      let long = s.one_each in
      same ∙ get_or_read seconds a read (omega arith) is [] ∙ s.at a low

  module _ (now left : List ℕ) (is : now ≡ seconds_of pairs a) (whole : left ≡ counts) where
    pub after_there : (k d : ℕ) → k < length now → get_or now k d < length left
    after_there k d lt =
        let x = get_or now k d in
        let in_seconds : Contains (seconds_of pairs a) x = subst (λ v. Contains v x) is (Contains-get_or now k d lt) in
        let low = second_low steps pairs of_steps a x (seconds_before pairs a x (any_from_contains (seconds_of pairs a) x in_seconds)) in
        let long : length left ≡ steps = ap length whole ∙ t.waits.one_each in
        omega arith

    pub after_wait : (x : ℕ) → times x now ≤ get_or left x 0
    after_wait x =
        let all = enough steps pairs of_steps listed counts free t a there bound x in
        let same : times x now ≡ times x (seconds_of pairs a) = ap (times x) is in
        let value : get_or left x 0 ≡ get_or counts x 0 = ap (λ v. get_or v x 0) whole in
        omega arith

    pub taken_on : (less : List ℕ) (rest after : BTreeSet ℕ) (longer : List ℕ) → tree.Updates nat_cmp free rest a false → AreReleased now left less rest after → longer ≡ listed ++ a ∷ [] → IsTaking steps pairs longer less after
    taken_on less rest after longer out r pushed =
        let released : AreReleased (seconds_of pairs a) counts less rest after = subst (λ v. AreReleased v counts less rest after) is (subst (λ v. AreReleased now v less rest after) whole r) in
        subst (λ v. IsTaking steps pairs v less after) (sym pushed) (takes_on steps pairs of_steps listed counts free t a there bound less rest after out released)
