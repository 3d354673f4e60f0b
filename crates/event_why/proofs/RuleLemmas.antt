-- Facts about an equation of the slice.
use Rattle.std.proofs.Common.{◌≡◌, ◌↔◌, ℕ, false, List, [], ◌∷◌, Option, Some, refl, sym, subst, ◌∙◌}
use Rattle.std.proofs.lemmas.Bool.{false≢true}
use Rattle.std.proofs.lemmas.Option.{same_Some}
use Rattle.std.specs.Prelude.{IsTrue}
use Rattle.tsl_value.specs.View.{View}
use Rattle.flat_core.specs.declared.equation.Equation.{Equation}
use Rattle.flat_core.specs.declared.equation.Op.TheVariants as op
use Rattle.flat_core.specs.Events.{Inputs}
use Rattle.flat_core.specs.Members.{is_in}
use Rattle.flat_core.specs.System.{System, equation}
use Rattle.why_rules.specs.Facts.{Fact, Happens, Silent, Pending}
use Rattle.why_rules.specs.Rules.{Makes, Lacks, Keeps, Follows, IsMember}
use Rattle.why_rules.specs.Rules as rule
use Rattle.event_why.specs.inner.Silence.{IsInGap, IsJoined}

module _ (s : System) (slice : List ℕ) (p : Inputs) (i : ℕ) where
  -- ---- an equation outside
  module _ (apart : is_in slice i ≡ false) where
    pub never_happens : (t : ℕ) (v : View) (fs : List Fact) → ¬ Follows s slice p (Happens i t v) fs
    never_happens t v fs (rule.Follows.happens e m makes) = false≢true (sym apart ∙ m.among)

    pub never_silent : (from to : ℕ) (fs : List Fact) → ¬ Follows s slice p (Silent i from to) fs
    never_silent from to fs (rule.Follows.silent e m lacks) = false≢true (sym apart ∙ m.among)
    never_silent from to fs (rule.Follows.silent_in_gap e m low times high) = false≢true (sym apart ∙ m.among)
    never_silent from to fs (rule.Follows.silent_joined e m low high) = false≢true (sym apart ∙ m.among)

    pub never_pending : (t : ℕ) (due : Option ℕ) (fs : List Fact) → ¬ Follows s slice p (Pending i t due) fs
    never_pending t due fs (rule.Follows.pending e m op_is args_are keeps) = false≢true (sym apart ∙ m.among)

  -- ---- one of the slice
  module _ (among : IsTrue (is_in slice i)) (e : Equation) (at : equation s i ≡ Some e) where
    member : IsMember s slice p i e
    member = record { among = among; is = at }

    pub happens_test : (t : ℕ) (v : View) (fs : List Fact) → Makes p i e t v fs ↔ Follows s slice p (Happens i t v) fs
    happens_test t v fs = (λ makes. rule.Follows.happens e member makes, of_follows)
      where
        of_follows : Follows s slice p (Happens i t v) fs → Makes p i e t v fs
        of_follows (rule.Follows.happens f m makes) = subst (λ (g : Equation). Makes p i g t v fs) (same_Some f e (sym m.is ∙ at)) makes

    pub silent_gap : (from to : ℕ) (fs : List Fact) → IsInGap from to fs → Follows s slice p (Silent i from to) fs
    silent_gap from to fs g = subst (λ gs. Follows s slice p (Silent i from to) gs) (sym g.is) (rule.Follows.silent_in_gap e member g.early g.times g.late)

    pub silent_join : (from to : ℕ) (fs : List Fact) → IsJoined i from to fs → Follows s slice p (Silent i from to) fs
    silent_join from to fs j = subst (λ gs. Follows s slice p (Silent i from to) gs) (sym j.is) (rule.Follows.silent_joined e member j.low j.high)

    -- what is neither in a gap nor joined is of one time
    silent_only : (from to : ℕ) (fs : List Fact) → ¬ IsInGap from to fs → ¬ IsJoined i from to fs → Follows s slice p (Silent i from to) fs → (from ≡ to) × Lacks p i e from fs
    silent_only from to fs no_gap no_join (rule.Follows.silent f m lacks) = (refl, subst (λ (g : Equation). Lacks p i g from fs) (same_Some f e (sym m.is ∙ at)) lacks)
    silent_only from to fs no_gap no_join (rule.Follows.silent_in_gap {low = low} {high = high} f m early times late) =
        absurd (no_gap (record { low = low; high = high; early = early; times = times; late = late; is = refl }))
    silent_only from to fs no_gap no_join (rule.Follows.silent_joined {middle = middle} f m low high) = absurd (no_join (record { middle = middle; low = low; high = high; is = refl }))

    pub silent_never : (from to : ℕ) (fs : List Fact) → ¬ IsInGap from to fs → ¬ IsJoined i from to fs → (from ≡ to → ⊥) → ¬ Follows s slice p (Silent i from to) fs
    silent_never from to fs no_gap no_join apart follows = apart (silent_only from to fs no_gap no_join follows).0

    pub silent_test : (from to : ℕ) (fs : List Fact) → ¬ IsInGap from to fs → ¬ IsJoined i from to fs → from ≡ to → Lacks p i e from fs ↔ Follows s slice p (Silent i from to) fs
    silent_test from to fs no_gap no_join same = (
      λ lacks. subst (λ n. Follows s slice p (Silent i from n) fs) same (rule.Follows.silent e member lacks),
      λ follows. (silent_only from to fs no_gap no_join follows).1,
    )

    pub pending_never : (t : ℕ) (due : Option ℕ) (fs : List Fact) → ¬ (e.op ≡ op.Delay) → ¬ Follows s slice p (Pending i t due) fs
    pending_never t due fs other (rule.Follows.pending f m op_is args_are keeps) = other (subst (λ (g : Equation). g.op ≡ op.Delay) (same_Some f e (sym m.is ∙ at)) op_is)

    pub pending_test : (d r t : ℕ) (due : Option ℕ) (fs : List Fact) → e.op ≡ op.Delay → e.args ≡ d ∷ r ∷ [] → Keeps p i e d r t due fs ↔ Follows s slice p (Pending i t due) fs
    pending_test d r t due fs op_is args_are = (λ keeps. rule.Follows.pending e member op_is args_are keeps, of_follows)
      where
        arguments : (x y : ℕ) → x ∷ y ∷ [] ≡ d ∷ r ∷ [] → (x ≡ d) × (y ≡ r)
        arguments x y same = (cc, cc)

        of_follows : Follows s slice p (Pending i t due) fs → Keeps p i e d r t due fs
        of_follows (rule.Follows.pending {d = x} {r = y} f m is are keeps) =
            let equal = same_Some f e (sym m.is ∙ at) in
            let args = arguments x y (sym (subst (λ (g : Equation). g.args ≡ x ∷ y ∷ []) equal are) ∙ args_are) in
            subst (λ (g : Equation). Keeps p i g d r t due fs) equal (subst (λ n. Keeps p i f d n t due fs) args.1 (subst (λ n. Keeps p i f n y t due fs) args.0 keeps))
