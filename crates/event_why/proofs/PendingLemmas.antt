-- From which facts it follows when a delay is due, one record for each rule.
use Rattle.std.proofs.Common.{◌≡◌, ◌↔◌, ◌⊎◌, ℕ, zero, suc, ◌+◌, ◌-◌, ◌<◌, ◌≤◌, ◌^◌, List, [], ◌∷◌, Option, Some, None, inl, inr, pos, refl, sym, ap, subst, ◌∙◌, arith}
use Rattle.std.proofs.lemmas.Bool.{cases_lt}
use Rattle.std.specs.Prelude.{SomeIff}
use Rattle.tsl_value.specs.View.{Plain}
use Rattle.tsl_value.specs.declared.scalar.Scalar.TheVariants as scalar
use Rattle.flat_core.specs.declared.equation.Equation.{Equation}
use Rattle.flat_core.specs.Events.{Inputs}
use Rattle.why_rules.specs.Facts.{Fact, Happens, Silent, Gap, Pending}
use Rattle.why_rules.specs.Rules.{Keeps, Sets, Tells}
use Rattle.why_rules.specs.Rules as rule
use Rattle.event_why.specs.declared.pending.Delay.{Delay}
use Rattle.event_why.proofs.ListedFacts.{same_head, same_rest}
use Rattle.event_why.specs.inner.Waits.{MaySet, IsSetTo, IsCancelled, IsNotSet, IsNeverSet, IsKeptOn, IsOver, IsOverGap}

-- one of the rules
abbrev pub KeepsSo : Delay → ℕ → Option ℕ → List Fact → Type 0
KeepsSo delay t due fs =
    IsSetTo delay t due fs ⊎ (IsCancelled delay t due fs ⊎ (IsNeverSet delay t due fs ⊎ (IsKeptOn delay t due fs ⊎ IsOverGap delay t due fs)))

module _ (p : Inputs) (delay : Delay) (e : Equation) where
  may_set : (t : ℕ) (f : Fact) → Sets p delay.itself e delay.reset t f → MaySet delay t f
  may_set t f (rule.Sets.reset {x = x}) = (x, inl refl)
  may_set t f (rule.Sets.itself {x = x}) = (x, inr refl)

  sets : (t : ℕ) (f : Fact) → MaySet delay t f → Sets p delay.itself e delay.reset t f
  sets t f (x, inl is) = subst (λ g. Sets p delay.itself e delay.reset t g) (sym is) rule.Sets.reset
  sets t f (x, inr is) = subst (λ g. Sets p delay.itself e delay.reset t g) (sym is) rule.Sets.itself

  abbrev Kept : ℕ → Option ℕ → List Fact → Type 0
  Kept t due fs = Keeps p delay.itself e delay.amount delay.reset t due fs

  pub keeps_so : (t : ℕ) (due : Option ℕ) (fs : List Fact) → t < 2 ^ 63 → Kept t due fs → KeepsSo delay t due fs
  keeps_so t due fs below (rule.Keeps.set {n = n} {f = f} positive low sets) =
      inl (record { amount = n; by = f; positive = positive; due_is = (low, refl); sets = may_set t f sets; is = refl })
  keeps_so t due fs below (rule.Keeps.set_too_late {n = n} {f = f} late sets) =
      inl (record { amount = n; by = f; positive = omega arith; due_is = λ low. absurd (omega arith); sets = may_set t f sets; is = refl })
  keeps_so t due fs below (rule.Keeps.cancelled {f = f} {g = g} silent sets) =
      inr (inl (record { without = f; by = g; none = refl; silent = silent; sets = may_set t g sets; is = refl }))
  keeps_so t due fs below (rule.Keeps.none_at_zero {f = f} {g = g} first second) =
      inr (inr (inl (record { reset = f; itself = g; start = refl; none = refl; not_set = record { first = first; second = second }; is = refl })))
  keeps_so t due fs below (rule.Keeps.kept {t = u} {f = f} {g = g} first second) =
      inr (inr (inr (inl (record { reset = f; itself = g; before = u; next = refl; not_set = record { first = first; second = second }; is = refl }))))
  keeps_so t due fs below (rule.Keeps.over_gap {before = u} earlier) =
      inr (inr (inr (inr (record { before = u; earlier = earlier; is = refl }))))

  set_kept : (t n : ℕ) (due : Option ℕ) (f : Fact) → 0 < n → SomeIff due (t + n < 2 ^ 63) (t + n) → MaySet delay t f → Kept t due (Happens delay.amount t (Plain (scalar.Int (pos n))) ∷ f ∷ [])
  set_kept t n None f positive late may =
      let high : 2 ^ 63 ≤ t + n = elim (cases_lt (t + n) (2 ^ 63)) [ inl low ↦ absurd (late low) | inr high ↦ high ] in
      rule.Keeps.set_too_late {n = n} high (sets t f may)
  set_kept t n (Some u) f positive at may =
      subst (λ w. Kept t (Some w) (Happens delay.amount t (Plain (scalar.Int (pos n))) ∷ f ∷ [])) (sym at.1) (rule.Keeps.set positive at.0 (sets t f may))

  never_set : (t : ℕ) (f g : Fact) → t ≡ 0 → Tells delay.reset t None f → Tells delay.itself t None g → Kept t None (f ∷ g ∷ [])
  never_set zero f g start first second = rule.Keeps.none_at_zero first second
  never_set (suc t) f g start first second = absurd (omega arith)

  kept_on : (t u : ℕ) (due : Option ℕ) (f g : Fact) → t ≡ suc u → Tells delay.reset t None f → Tells delay.itself t None g → Kept t due (f ∷ g ∷ Pending delay.itself u due ∷ [])
  kept_on t u due f g next first second =
      subst (λ n. Tells delay.reset n None f → Tells delay.itself n None g → Kept n due (f ∷ g ∷ Pending delay.itself u due ∷ [])) (sym next)
      (λ a b. rule.Keeps.kept a b) first second

  pub kept_so : (t : ℕ) (due : Option ℕ) (fs : List Fact) → KeepsSo delay t due fs → Kept t due fs
  kept_so t due fs (inl r) = subst (λ gs. Kept t due gs) (sym r.is) (set_kept t r.amount due r.by r.positive r.due_is r.sets)
  kept_so t due fs (inr (inl r)) =
      subst (λ gs. Kept t due gs) (sym r.is) (subst (λ d. Kept t d (r.without ∷ r.by ∷ [])) (sym r.none) (rule.Keeps.cancelled r.silent (sets t r.by r.sets)))
  kept_so t due fs (inr (inr (inl r))) =
      subst (λ gs. Kept t due gs) (sym r.is)
      (subst (λ d. Kept t d (r.reset ∷ r.itself ∷ [])) (sym r.none)
      (never_set t r.reset r.itself r.start r.not_set.first r.not_set.second))
  kept_so t due fs (inr (inr (inr (inl r)))) = subst (λ gs. Kept t due gs) (sym r.is) (kept_on t r.before due r.reset r.itself r.next r.not_set.first r.not_set.second)
  kept_so t due fs (inr (inr (inr (inr r)))) = subst (λ gs. Kept t due gs) (sym r.is) (rule.Keeps.over_gap r.earlier)

-- ---- tests of the facts that are named

gap_start : ℕ → Fact → ℕ
gap_start d (Gap from to) = from
gap_start d (Happens i t v) = d
gap_start d (Silent i from to) = d
gap_start d (Pending i t due) = d

same_start : (a b c d : ℕ) → Gap a c ≡ Gap b d → a ≡ b
unfolding gap_start
same_start a b c d same = ap (gap_start 0) same

gap_end : ℕ → Fact → ℕ
gap_end d (Gap from to) = to
gap_end d (Happens i t v) = d
gap_end d (Silent i from to) = d
gap_end d (Pending i t due) = d

same_end : (a b c d : ℕ) → Gap a c ≡ Gap b d → c ≡ d
unfolding gap_end
same_end a b c d same = ap (gap_end 0) same

-- a list of two or three facts, part by part
module _ (delay : Delay) (t : ℕ) (due : Option ℕ) (fs : List Fact) where
  pub cancelled_test : (f g : Fact) → fs ≡ f ∷ g ∷ [] → due ≡ None → Tells delay.amount t None f → MaySet delay t g ↔ IsCancelled delay t due fs
  cancelled_test f g two none silent = (
    λ may. record { without = f; by = g; none = none; silent = silent; sets = may; is = two },
    λ r. subst (λ h. MaySet delay t h) (same_head r.by g [] [] (same_rest r.without f (r.by ∷ []) (g ∷ []) (sym r.is ∙ two))) r.sets,
  )

  pub kept_on_test : (f g h : Fact) → fs ≡ f ∷ g ∷ h ∷ [] → 0 < t → IsNotSet delay t f g → (h ≡ Pending delay.itself (t - 1) due) ↔ IsKeptOn delay t due fs
  kept_on_test f g h three later not_set = (
    λ is. record { reset = f; itself = g; before = t - 1; next = omega arith; not_set = not_set; is = three ∙ ap (λ x. f ∷ g ∷ x ∷ []) is },
    λ r.
        let next = r.next in
        let before : r.before ≡ t - 1 = omega (arith, next) in
        let pending = Pending delay.itself r.before due in
        let same = same_rest f r.reset (g ∷ h ∷ []) (r.itself ∷ pending ∷ []) (sym three ∙ r.is) in
        same_head h pending [] [] (same_rest g r.itself (h ∷ []) (pending ∷ []) same) ∙ ap (λ n. Pending delay.itself n due) before,
  )

  over_gap_so : (from : ℕ) (g : Fact) → fs ≡ Gap from t ∷ g ∷ [] → 0 < from → from ≤ t → g ≡ Pending delay.itself (from - 1) due → IsOverGap delay t due fs
  over_gap_so from g two positive early is =
      let next : from ≡ suc (from - 1) = omega arith in
      record { before = from - 1; earlier = omega arith; is = two ∙ (λ k. Gap (next k) t ∷ is k ∷ []) }

  pub over_gap_test : (from to : ℕ) (g : Fact) → fs ≡ Gap from to ∷ g ∷ [] → IsOver delay t due from to g ↔ IsOverGap delay t due fs
  over_gap_test from to g two = (
    λ o. over_gap_so from g (two ∙ ap (λ n. Gap from n ∷ g ∷ []) o.0) o.1 o.2 o.3,
    λ r.
        let both = sym two ∙ r.is in
        let gaps = same_head (Gap from to) (Gap (suc r.before) t) (g ∷ []) (Pending delay.itself r.before due ∷ []) both in
        let start = same_start from (suc r.before) to t gaps in
        let end = same_end from (suc r.before) to t gaps in
        let rest = same_head g (Pending delay.itself r.before due) [] [] (same_rest (Gap from to) (Gap (suc r.before) t) (g ∷ []) (Pending delay.itself r.before due ∷ []) both) in
        let before : r.before ≡ from - 1 = omega (arith, start) in
        let earlier = r.earlier in
        (end, omega (arith, start), omega (arith, start, earlier), rest ∙ ap (λ n. Pending delay.itself n due) before),
  )

-- the rules of a delay, by those that hold
module _ (p : Inputs) (e : Equation) (delay : Delay) (t : ℕ) (due : Option ℕ) (fs : List Fact) where
  abbrev pub KeptBy : Type 0
  KeptBy = Keeps p delay.itself e delay.amount delay.reset t due fs

  pub all_rules : t < 2 ^ 63 → KeepsSo delay t due fs ↔ KeptBy
  all_rules below = (λ so. kept_so p delay e t due fs so, λ kept. keeps_so p delay e t due fs below kept)
