-- Delays that wait, each by a fact of its own.
use Rattle.std.proofs.Common.{◌≡◌, ℕ, suc, ◌+◌, ◌<◌, ◌≤◌, Bool, true, false, List, [], ◌∷◌, ◌++◌, filter, length, take, slice_get, Contains, Option, Some, None, refl, sym, ap, subst, ◌∙◌, inl, inr, arith}
use Rattle.std.proofs.lemmas.Bool.{cases_Bool}
use Rattle.std.proofs.lemmas.List.{take_all, take_more}
use Rattle.std.proofs.lemmas.List.Kept.{AllPairs-filter, AllPairs-from_increasing}
use Rattle.std.proofs.lemmas.Option.{get_or_from_slice_get, slice_get_within}
use Rattle.std.specs.List.{AllByRecursion}
use Rattle.std.specs.List.Sorted.{IsStrictlyIncreasing}
use Rattle.tsl_value.proofs.Lists.{cons_cases, contains_at, here, kept_in, later, none_in_nil, with_first, without_first}
use Rattle.flat_core.specs.Events.{Inputs}
use Rattle.flat_core.specs.Instant.{is_delay}
use Rattle.flat_core.specs.System.{System, equation}
use Rattle.flat_core.proofs.Members.{all_append, all_at, all_from, in-Contains}
use Rattle.flat_core.proofs.Rising.{Rises, above, rest_rises}
use Rattle.why_rules.specs.Facts.{Fact, Happens, Silent, Gap, Pending}
use Rattle.why_rules.specs.Rules.{AllWait, Follows, IsAfter, NothingGiven}
use Rattle.why_rules.specs.Rules as rule
use Rattle.event_why.specs.inner.Search.{InSomeOrder}
use Rattle.event_why.specs.inner.Waits.{IsWaiting, IsWaitingOf, PutsWaiting}
use Rattle.event_why.specs.inner.Waits as waits_in

delay_in : ℕ → Fact → ℕ
delay_in d (Pending i t due) = i
delay_in d (Happens i t v) = d
delay_in d (Silent i from to) = d
delay_in d (Gap from to) = d

same_delay : (i j t u : ℕ) (x y : Option ℕ) → Pending i t x ≡ Pending j u y → i ≡ j
unfolding delay_in
same_delay i j t u x y same = ap (delay_in 0) same

module _ (before to : ℕ) where
  -- ---- a fact for each delay

  pub wait_for : (delays : List ℕ) (uses : List Fact) (i : ℕ) → AllWait before to delays uses → Contains delays i → (f : Fact) × Contains uses f × IsWaiting i before to f
  wait_for delays uses i rule.AllWait.done c = absurd (none_in_nil i c)
  wait_for delays uses i (rule.AllWait.next {i = j} {delays = rest} {due = due} {fs = fs} after others) c = elim (cons_cases j i rest c) [
    | inl same ↦ (Pending j before due, here (Pending j before due) fs, record { due = due; after = after; is = ap (λ k. Pending k before due) same })
    | inr tail ↦
        let found = wait_for rest fs i others tail in
        (found.0, later (Pending j before due) found.0 fs found.1, found.2)
  ]

  -- whose fact it is
  wait_of : (delays : List ℕ) (uses : List Fact) (f : Fact) → AllWait before to delays uses → Contains uses f → (i : ℕ) × Contains delays i × IsWaiting i before to f
  wait_of delays uses f rule.AllWait.done c = absurd (none_in_nil f c)
  wait_of delays uses f (rule.AllWait.next {i = j} {delays = rest} {due = due} {fs = fs} after others) c = elim (cons_cases (Pending j before due) f fs c) [
    | inl same ↦ (j, here j rest, record { due = due; after = after; is = sym same })
    | inr tail ↦
        let found = wait_of rest fs f others tail in
        (found.0, later j found.0 rest found.1, found.2)
  ]

  pub wait_push : (delays : List ℕ) (uses : List Fact) (i : ℕ) (f : Fact) → AllWait before to delays uses → IsWaiting i before to f → AllWait before to (delays ++ i ∷ []) (uses ++ f ∷ [])
  wait_push delays uses i f rule.AllWait.done w =
      subst (λ g. AllWait before to (i ∷ []) (g ∷ [])) (sym w.is) (rule.AllWait.next w.after rule.AllWait.done)
  wait_push delays uses i f (rule.AllWait.next {delays = rest} {fs = fs} after others) w = rule.AllWait.next after (wait_push rest fs i f others w)

  -- ---- there is one way at most

  -- no delay stands twice
  abbrev pub StandOnce : List ℕ → Type 0
  StandOnce [] = Unit {0}
  StandOnce (i ∷ delays) = ¬ Contains delays i × StandOnce delays

  not_later : (i : ℕ) (due : Option ℕ) (delays : List ℕ) (uses : List Fact) → ¬ Contains delays i → AllWait before to delays uses → ¬ Contains uses (Pending i before due)
  not_later i due delays uses apart wait c =
      let found = wait_of delays uses (Pending i before due) wait c in
      apart (subst (Contains delays) (same_delay found.0 i before before found.2.due due (sym found.2.is)) found.1)

  pub one_way : (delays : List ℕ) (us vs : List Fact) → StandOnce delays → AllWait before to delays us → AllWait before to delays vs → AllByRecursion (Contains vs) us → us ≡ vs
  one_way delays us vs once rule.AllWait.done rule.AllWait.done among = refl
  one_way delays us vs once (rule.AllWait.next {i = i} {delays = rest} {due = due} {fs = fs} after others) (rule.AllWait.next {due = other} {fs = gs} later_on more) among =
      let first : Pending i before other ≡ Pending i before due = elim (cons_cases (Pending i before other) (Pending i before due) gs among.0) [
        | inl same ↦ same
        | inr tail ↦ absurd (not_later i due rest gs once.0 more tail)
      ] in
      let tails : AllByRecursion (Contains gs) fs = all_from (Contains gs) fs (λ f c. elim (cons_cases (Pending i before other) f gs (all_at (Contains (Pending i before other ∷ gs)) fs among.1 f c)) [
        | inl same ↦ absurd (not_later i other rest fs once.0 others (subst (Contains fs) (sym same) c))
        | inr tail ↦ tail
      ]) in
      let same = one_way rest fs gs once.1 others more tails in
      λ k. sym first k ∷ same k

  -- ---- place by place
  module _ (s : System) (slice : List ℕ) where
    abbrev is_one : ℕ → Bool
    is_one i = is_delay (equation s i)

    abbrev pub delays_in : List ℕ → List ℕ
    delays_in xs = filter is_one xs

    with_one : (xs : List ℕ) (i : ℕ) → is_one i ≡ true → delays_in (xs ++ i ∷ []) ≡ delays_in xs ++ i ∷ []
    with_one [] i is = with_first is_one i [] is
    with_one (x ∷ xs) i is = elim (cases_Bool (is_one x)) [
      | inl one ↦ with_first is_one x (xs ++ i ∷ []) one ∙ ap (λ ys. x ∷ ys) (with_one xs i is) ∙ sym (ap (λ ys. ys ++ i ∷ []) (with_first is_one x xs one))
      | inr none ↦ without_first is_one x (xs ++ i ∷ []) none ∙ with_one xs i is ∙ sym (ap (λ ys. ys ++ i ∷ []) (without_first is_one x xs none))
    ]

    without_one : (xs : List ℕ) (i : ℕ) → is_one i ≡ false → delays_in (xs ++ i ∷ []) ≡ delays_in xs
    without_one [] i is = without_first is_one i [] is
    without_one (x ∷ xs) i is = elim (cases_Bool (is_one x)) [
      | inl one ↦ with_first is_one x (xs ++ i ∷ []) one ∙ ap (λ ys. x ∷ ys) (without_one xs i is) ∙ sym (with_first is_one x xs one)
      | inr none ↦ without_first is_one x (xs ++ i ∷ []) none ∙ without_one xs i is ∙ sym (without_first is_one x xs none)
    ]

    front_at : (place i : ℕ) → slice_get slice place ≡ Some i → take (place + 1) slice ≡ take place slice ++ i ∷ []
    front_at place i at = take_more slice place i (slice_get_within slice place i at) ∙ ap (λ x. take place slice ++ x ∷ []) (get_or_from_slice_get slice place i i at)

    pub waits_past : (place : ℕ) (facts old new : List Fact) → PutsWaiting before to s slice place facts old true new → AllWait before to (delays_in (take place slice)) old → AllByRecursion (Contains facts) old → AllWait before to (delays_in (take (place + 1) slice)) new × AllByRecursion (Contains facts) new
    waits_past place facts old new (waits_in.PutsWaiting.other {i = i} at none) waits among =
        (subst (λ xs. AllWait before to xs old) (sym (ap delays_in (front_at place i at) ∙ without_one (take place slice) i none)) waits, among)
    waits_past place facts old new (waits_in.PutsWaiting.put {i = i} f at one c w) waits among = (
      subst (λ xs. AllWait before to xs (old ++ f ∷ [])) (sym (ap delays_in (front_at place i at) ∙ with_one (take place slice) i one)) (wait_push (delays_in (take place slice)) old i f waits w),
      all_append (Contains facts) old (f ∷ []) among (c, tt),
    )

    pub none_waits : (place : ℕ) (facts old new uses : List Fact) → PutsWaiting before to s slice place facts old false new → AllWait before to (delays_in slice) uses → ¬ AllByRecursion (Contains facts) uses
    none_waits place facts old new uses (waits_in.PutsWaiting.none {i = i} at one none) waits among =
        let found = wait_for (delays_in slice) uses i waits (kept_in is_one slice i (contains_at slice place i at) one) in
        none found.0 (all_at (Contains facts) uses among found.0 found.1) found.2

    pub waits_end : (place : ℕ) (uses : List Fact) → length slice ≤ place → AllWait before to (delays_in (take place slice)) uses → AllWait before to (delays_in slice) uses
    waits_end place uses past waits = subst (λ xs. AllWait before to (delays_in xs) uses) (take_all place slice past) waits

-- ---- a gap
-- no number of an ascending list stands twice
rising_once : (xs : List ℕ) → Rises xs → StandOnce 0 0 xs
rising_once [] rises = tt
rising_once (x ∷ xs) rises = (
  λ c. let more = above x xs rises x (in-Contains xs x c) in absurd (omega (arith, more)),
  rising_once xs (rest_rises x xs rises),
)

once_so : (before to : ℕ) (xs : List ℕ) → StandOnce 0 0 xs → StandOnce before to xs
once_so before to [] once = tt
once_so before to (x ∷ xs) once = (once.0, once_so before to xs once.1)

module _ (s : System) (slice : List ℕ) (p : Inputs) (before to : ℕ) (facts : List Fact) where
  abbrev pub delays : List ℕ
  delays = filter (λ i. is_delay (equation s i)) slice

  gap_uses : (from : ℕ) (uses : List Fact) → from ≡ suc before → Follows s slice p (Gap from to) uses → AllWait before to delays uses
  gap_uses from uses next (rule.Follows.gap {before = b} later nothing waits) =
      let same : b ≡ before = omega (arith, next) in
      subst (λ n. AllWait n to delays uses) same waits

  gap_nothing : (from : ℕ) (uses : List Fact) → Follows s slice p (Gap from to) uses → (0 < from) × (from ≤ to) × NothingGiven s slice p from to
  gap_nothing from uses (rule.Follows.gap later nothing waits) = (omega arith, omega arith, nothing)

  -- what is not so of a gap
  pub no_gap : (from : ℕ) → ((0 < from) → (from ≤ to) → ¬ NothingGiven s slice p from to) → ¬ InSomeOrder (Follows s slice p (Gap from to)) facts
  no_gap from never o = let parts = gap_nothing from o.uses o.has in never parts.0 parts.1 parts.2

  module _ (from : ℕ) (next : from ≡ suc before) where
    pub gap_none : IsWaitingOf before to delays facts None → ¬ InSomeOrder (Follows s slice p (Gap from to)) facts
    gap_none none o =
        none o.uses (gap_uses from o.uses next o.has) (all_from (Contains facts) o.uses (λ f c. (o.same f).0 c))

    module _ (uses : List Fact) (found : IsWaitingOf before to delays facts (Some uses)) where
      -- the facts found are all that are named
      pub gap_found : from ≤ to → NothingGiven s slice p from to → AllByRecursion (Contains uses) facts → InSomeOrder (Follows s slice p (Gap from to)) facts
      gap_found low nothing all = record {
        uses = uses;
        same = λ f. (λ c. all_at (Contains facts) uses found.1 f c, λ c. all_at (Contains uses) facts all f c);
        has = subst (λ n. NothingGiven s slice p n to → Follows s slice p (Gap n to) uses) (sym next)
            (λ given. rule.Follows.gap (omega (arith, low, next)) given found.0) nothing;
      }

      pub gap_all : IsStrictlyIncreasing slice → InSomeOrder (Follows s slice p (Gap from to)) facts → AllByRecursion (Contains uses) facts
      gap_all ascending o =
          let rises = AllPairs-filter (λ x y. x < y) (λ i. is_delay (equation s i)) slice (AllPairs-from_increasing slice ascending) in
          let once = once_so before to delays (rising_once delays rises) in
          let among = all_from (Contains o.uses) uses (λ f c. (o.same f).1 (all_at (Contains facts) uses found.1 f c)) in
          let same = one_way before to delays uses o.uses once found.0 (gap_uses from o.uses next o.has) among in
          all_from (Contains uses) facts (λ f c. subst (λ us. Contains us f) (sym same) ((o.same f).1 c))
