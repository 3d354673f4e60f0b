-- When the next instant comes.
use Rattle.std.proofs.Common.{◌≡◌, ℕ, ◌≤◌, List, [], ◌∷◌, Option, Some, None, refl, sym, ap, subst, ◌∙◌, inl, inr, arith}
use Rattle.std.proofs.lemmas.Bool.{cases_lt, lt-ltb, le-ltb}
use Rattle.std.specs.Prelude.{◌⊎◌, ◌≢◌, if◌then◌else◌, MatchOption}
use Rattle.std.specs.List.{AllByRecursion, Contains}
use Rattle.std.specs.FinMap as finite_map
use Rattle.std.specs.Ordering.{nat_cmp}
use Rattle.std.proofs.lemmas.Option.{same_Some}
use Rattle.delay_timers.specs.inner.Pending.{Times, IsLeastTime}
use Rattle.flat_core.specs.Line.{Line}
use Rattle.flat_core.proofs.Members.{contains_head}
use Rattle.flat_core.proofs.Uniqueness.{all_by}
use Rattle.monitor_run.specs.inner.Given.{AreAt}
use Rattle.monitor_run.specs.inner.Next.{Comes, IsFirstTime, NothingBefore, earliest, time_if}

-- the time of the timers
abbrev pub IsFirstTimer : Times → Option ℕ → Type 0
IsFirstTimer timers first = MatchOption first (timers ≡ finite_map.empty) (IsLeastTime timers)

none_pending : (timers : Times) → timers ≡ finite_map.empty → (i u : ℕ) → finite_map.get timers i ≡ Some u → ⊥
none_pending timers empty i u is = let nothing = ap (λ ts. finite_map.get ts i) empty ∙ finite_map.get-empty nat_cmp i in absurd (cc)

module _ (next : ℕ) (given : List Line) (timers : Times) where
  -- where something has run
  pub first_later : next ≢ 0 → (at : ℕ) → AreAt at given → (first : Option ℕ) → IsFirstTimer timers first → (t : ℕ) → earliest (time_if at given) first ≡ Some t → Comes next given timers t × NothingBefore next given timers t
  first_later later at all first timer t is = from given all first timer is
    where
      from : (lines : List Line) → AreAt at lines → (o : Option ℕ) → IsFirstTimer timers o → earliest (time_if at lines) o ≡ Some t → (((next ≡ 0) × (t ≡ 0)) ⊎ ((l : Line) × Contains lines l × (l.time ≡ t)) ⊎ ((i : ℕ) × (finite_map.get timers i ≡ Some t))) × NothingBefore next lines timers t
      from [] a None p q = absurd (cc)
      from [] a (Some u) p q =
          let same = same_Some u t q in
          let least : IsLeastTime timers t = subst (IsLeastTime timers) same p in
          (inr (inr least.is_due), record { start = λ zero. absurd (later zero); events = tt; delays = λ i v is. least.least i v is })
      from (l ∷ lines) a None p q =
          let same = same_Some at t q in
          (inr (inl (l, contains_head l lines, a.0 ∙ same)), record { start = λ zero. absurd (later zero); events = all_by (λ l. l.time ≡ at) (λ l. t ≤ l.time) (λ l there. omega arith) (l ∷ lines) a; delays = λ i v is. absurd (none_pending timers p i v is) })
      from (l ∷ lines) a (Some u) p q = elim (cases_lt u at) [
        | inl low ↦
            let same = same_Some u t (sym (λ k. if lt-ltb u at low k then Some u else Some at) ∙ q) in
            let least : IsLeastTime timers t = subst (IsLeastTime timers) same p in
            (inr (inr least.is_due), record { start = λ zero. absurd (later zero); events = all_by (λ l. l.time ≡ at) (λ l. t ≤ l.time) (λ l there. omega arith) (l ∷ lines) a; delays = λ i v is. least.least i v is })
        | inr high ↦
            let same = same_Some at t (sym (λ k. if le-ltb u at high k then Some u else Some at) ∙ q) in
            (inr (inl (l, contains_head l lines, a.0 ∙ same)), record { start = λ zero. absurd (later zero); events = all_by (λ l. l.time ≡ at) (λ l. t ≤ l.time) (λ l there. omega arith) (l ∷ lines) a; delays = λ i v is. let from_first = p.least i v is in omega arith })
      ]

  pub none_later : next ≢ 0 → (at : ℕ) → AreAt at given → (first : Option ℕ) → IsFirstTimer timers first → earliest (time_if at given) first ≡ None → (bound : ℕ) → NothingBefore next given timers bound
  none_later later at all first timer is bound = from given all first timer is
    where
      from : (lines : List Line) → AreAt at lines → (o : Option ℕ) → IsFirstTimer timers o → earliest (time_if at lines) o ≡ None → NothingBefore next lines timers bound
      from [] a None p q = record { start = λ zero. absurd (later zero); events = tt; delays = λ i v is. absurd (none_pending timers p i v is) }
      from [] a (Some u) p q = absurd (cc)
      from (l ∷ lines) a None p q = absurd (cc)
      from (l ∷ lines) a (Some u) p q = elim (cases_lt u at) [
        | inl low ↦ let no : Some u ≡ None = sym (λ k. if lt-ltb u at low k then Some u else Some at) ∙ q in absurd (cc)
        | inr high ↦ let no : Some at ≡ None = sym (λ k. if le-ltb u at high k then Some u else Some at) ∙ q in absurd (cc)
      ]

  pub first_is : next ≢ 0 → (at : ℕ) → AreAt at given → (first : Option ℕ) → IsFirstTimer timers first → (r : Option ℕ) → earliest (time_if at given) first ≡ r → IsFirstTime next given timers r
  first_is later at all first timer None is = λ bound. none_later later at all first timer is bound
  first_is later at all first timer (Some t) is = first_later later at all first timer t is

  pub starts : next ≡ 0 → (r : Option ℕ) → r ≡ Some 0 → IsFirstTime next given timers r
  starts first r is = subst (IsFirstTime next given timers) (sym is) (inl (first, refl), record { start = λ none. omega arith; events = all_lines given; delays = λ i v due. omega arith })
    where
      all_lines : (lines : List Line) → AllByRecursion (λ l. 0 ≤ l.time) lines
      all_lines [] = tt
      all_lines (l ∷ lines) = (omega arith, all_lines lines)
