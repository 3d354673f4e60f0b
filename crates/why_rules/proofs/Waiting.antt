-- What is pending, and gaps in which nothing happens.
use Rattle.std.proofs.Common.{◌≡◌, ◌==◌, ℕ, zero, suc, ◌+◌, ◌<◌, ◌≤◌, ◌^◌, true, false, ◌&&◌, ◌||◌, List, [], ◌∷◌, Option, Some, None, refl, sym, ap, subst, ◌∙◌, inl, inr, arith}
use Rattle.std.specs.Prelude.{IsTrue, if◌then◌else◌, is_some}
use Rattle.std.specs.List.{AllByRecursion, filter}
use Rattle.std.proofs.lemmas.Bool.{cases_lt, eqb-true, ne_eqb, or_cases, false≢true}
use Rattle.std.proofs.Math.Bool.{or-true}
use Rattle.std.proofs.lemmas.Option.{same_Some}
use Rattle.flat_core.specs.declared.equation.Op.{Op}
use Rattle.flat_core.specs.declared.equation.Op.TheVariants as op
use Rattle.flat_core.specs.declared.equation.Equation.{Equation}
use Rattle.flat_core.specs.Members.{is_in}
use Rattle.flat_core.specs.System.{System, equation, runs}
use Rattle.flat_core.specs.Complete.{IsFlat}
use Rattle.flat_core.specs.WellFormed.{IsWellFormed}
use Rattle.flat_core.specs.Stream.{event, has_event}
use Rattle.flat_core.specs.Events.{Inputs, unit}
use Rattle.flat_core.specs.Case.{Streams, delayed, used_of}
use Rattle.flat_core.specs.Instant.{is_delay_op, is_delay}
use Rattle.flat_core.specs.Pending.{reached, is_set, pending, option_is}
use Rattle.flat_core.specs.Solution.{Solves}
use Rattle.flat_core.specs.inner.Arity.{HasArity}
use Rattle.flat_core.specs.inner.Kept.{IsKept}
use Rattle.flat_core.proofs.DueLemmas.{delay_kept, delayed_is-due}
use Rattle.flat_core.proofs.Members.{all_from}
use Rattle.flat_core.proofs.Quiet.{case_of-quiet, has_arguments}
use Rattle.flat_core.proofs.Rising.{in_filter}
use Rattle.flat_core.proofs.Shapes.{shape_of}
use Rattle.flat_core.proofs.StillLemmas.{pending_still}
use Rattle.flat_core.proofs.Uniqueness.{all_with, all_used, used_all}
use Rattle.flat_core.proofs.WellFormedRank.{rank_of, well_formed_ranked}
use Rattle.flat_slice.specs.Slice.{IsSlice}
use Rattle.flat_slice.proofs.SliceLemmas.{case_of-inputs}
use Rattle.why_rules.specs.Facts.{Fact, Gap, Pending, IsDue, Says}
use Rattle.why_rules.specs.Rules.{Sets, Keeps, IsMember, NothingGiven, IsAfter, AllWait}
use Rattle.why_rules.specs.Rules as rule
use Rattle.why_rules.specs.Derivation.{IsSound}
use Rattle.why_rules.proofs.Members.{argument_in, runs_member, nothing}
use Rattle.why_rules.proofs.Instants.{tell, delay_args, at_next}

-- nothing is due at a time up to which it isn't
not_yet : (to u : ℕ) (due : Option ℕ) → u ≤ to → IsAfter to due → option_is u due ≡ false
not_yet to u None low later = refl
not_yet to u (Some v) low later = ne_eqb v u (λ same. absurd (omega arith))

is_delay-op : (c : Op) → IsTrue (is_delay_op c) → c ≡ op.Delay
is_delay-op op.Delay is = refl
is_delay-op c is = absurd (false≢true is)

module _ (s : System) (whole : IsFlat s) (o : ℕ) (o_runs : IsTrue (runs s o)) (slice : List ℕ) (is : IsSlice s o slice) (p : Inputs) (bound : ℕ) (small : bound ≤ 2 ^ 63) (z : Streams) (solves : Solves s p bound z) (sound : IsSound slice z bound) where
  tells : (a t : ℕ) (f : Fact) → t < bound → rule.Tells a t None f → Says s slice z bound f → event (z a t) ≡ None
  tells a t f = tell s whole o o_runs slice is p bound small z solves sound a t None f

  module _ (i : ℕ) (e : Equation) (m : IsMember s slice p i e) (d r : ℕ) (args_are : e.args ≡ d ∷ r ∷ []) where
    abbrev pends : ℕ → Option ℕ
    pends t = pending (z d) (z r) (z i) (suc t)

    said : (t : ℕ) (due : Option ℕ) → t < bound → Says s slice z bound (Pending i t due) → (u : ℕ) → t < u → u < 2 ^ 63 → option_is u (pends t) ≡ option_is u due
    said t due lt says = subst (λ xs. IsDue z i t xs due) args_are (says lt e m.is)

    is_set_here : (t : ℕ) (f : Fact) → t < bound → Sets p i e r t f → Says s slice z bound f → is_set (z r) (z i) t ≡ true
    is_set_here t f lt rule.Sets.reset says = λ k. is_some (says lt k) || has_event (z i t)
    is_set_here t f lt rule.Sets.itself says = (λ k. has_event (z r t) || is_some (says lt k)) ∙ or-true (has_event (z r t))

    not_set : (t : ℕ) → event (z r t) ≡ None → event (z i t) ≡ None → is_set (z r) (z i) t ≡ false
    not_set t first second = λ k. is_some (first k) || is_some (second k)

    pub keeps : (t : ℕ) (due : Option ℕ) (fs : List Fact) → t < bound → Keeps p i e d r t due fs → AllByRecursion (Says s slice z bound) fs → (u : ℕ) → t < u → u < 2 ^ 63 → option_is u (pends t) ≡ option_is u due
    keeps t due fs lt (rule.Keeps.set {f = f} positive early sets) all u after low =
        let here = is_set_here t f lt sets all.1.0 in
        let amount = all.0 lt in
        λ k. option_is u (if here k then reached t (amount k) else pending (z d) (z r) (z i) t)
    keeps t due fs lt (rule.Keeps.set_too_late {n = n} {f = f} late sets) all u after low =
        let here = is_set_here t f lt sets all.1.0 in
        let amount = all.0 lt in
        (λ k. option_is u (if here k then reached t (amount k) else pending (z d) (z r) (z i) t)) ∙ ne_eqb (t + n) u (λ same. absurd (omega arith))
    keeps t due fs lt (rule.Keeps.cancelled {f = f} {g = g} silent sets) all u after low =
        let here = is_set_here t g lt sets all.1.0 in
        let amount = tells d t f lt silent all.0 in
        λ k. option_is u (if here k then reached t (amount k) else pending (z d) (z r) (z i) t)
    keeps t due fs lt (rule.Keeps.none_at_zero {f = f} {g = g} first second) all u after low =
        let here = not_set zero (tells r zero f lt first all.0) (tells i zero g lt second all.1.0) in
        λ k. option_is u (if here k then reached zero (event (z d zero)) else None)
    keeps t due fs lt (rule.Keeps.kept {t = v} {f = f} {g = g} first second) all u after low =
        let here = not_set (suc v) (tells r (suc v) f lt first all.0) (tells i (suc v) g lt second all.1.0) in
        (λ k. option_is u (if here k then reached (suc v) (event (z d (suc v))) else pends v)) ∙ said v due (omega arith) all.1.1.0 u (omega arith) low
    keeps t due fs lt (rule.Keeps.over_gap {before = before} later) all u after low =
        let r_in = argument_in s whole o o_runs slice is p bound z solves sound i e m r (at_next d r e.args [] args_are) in
        let silent = all.0 in
        let still = pending_still (z d) (z r) (z i) (suc before) (suc t) (omega arith) (λ w from to. (
          nothing s whole o o_runs slice is p bound z solves sound r w r_in (omega arith) (silent r r_in w from (omega arith) (omega arith)),
          nothing s whole o o_runs slice is p bound z solves sound i w m.among (omega arith) (silent i m.among w from (omega arith) (omega arith)),
        )) in
        ap (option_is u) still ∙ said before due (omega arith) all.1.0 u (omega arith) low

    pub keeps_says : (t : ℕ) (due : Option ℕ) (fs : List Fact) → Keeps p i e d r t due fs → AllByRecursion (Says s slice z bound) fs → Says s slice z bound (Pending i t due)
    keeps_says t due fs k all lt f at =
        subst (λ (g : Equation). IsDue z i t g.args due) (same_Some e f (sym m.is ∙ at)) (subst (λ xs. IsDue z i t xs due) (sym args_are) (keeps t due fs lt k all))

  -- ---- gaps
  waiting : (before to : ℕ) (delays : List ℕ) (fs : List Fact) → AllWait before to delays fs → AllByRecursion (Says s slice z bound) fs → (i : ℕ) → IsTrue (is_in delays i) → (due : Option ℕ) × IsAfter to due × Says s slice z bound (Pending i before due)
  waiting before to delays fs rule.AllWait.done all i there = absurd (false≢true there)
  waiting before to delays fs (rule.AllWait.next {i = j} {delays = rest} {due = due} {fs = gs} after others) all i there = elim (or_cases (j == i) (is_in rest i) there) [
    | inl here ↦ (due, after, subst (λ n. Says s slice z bound (Pending n before due)) (eqb-true j i here) all.0)
    | inr further ↦ waiting before to rest gs others all.1 i further
  ]

  module _ (formed : IsWellFormed s) (before to : ℕ) (fs : List Fact) (given : NothingGiven s slice p (suc before) to) (wait : AllWait before to (filter (λ i. is_delay (equation s i)) slice) fs) (all : AllByRecursion (Says s slice z bound) fs) where
    abbrev rank : ℕ → ℕ
    rank = rank_of s formed

    module _ (t : ℕ) (low : suc before ≤ suc t) (high : suc t ≤ to) (lt : suc t < bound) (past : (a u : ℕ) → IsTrue (is_in slice a) → suc before ≤ u → u < suc t → z a u ≡ None) where
      -- no delay is due
      no_delay : (i : ℕ) (e : Equation) → IsMember s slice p i e → IsTrue (is_delay_op e.op) → delayed z i e.args (suc t) ≡ None
      no_delay i e m delay =
          let op_is = is_delay-op e.op delay in
          let args = delay_args e.args (subst (λ c. HasArity c e.args) op_is (shape_of s whole i e m.is)) in
          let d = args.0 in
          let r = args.1 in
          let r_in = argument_in s whole o o_runs slice is p bound z solves sound i e m r (at_next d r e.args [] args.2) in
          let kept : IsKept z i op.Delay (d ∷ r ∷ []) (suc t) = λ w below. delay_kept s p z bound solves i e (runs_member s whole o o_runs slice is p bound z solves sound i m.among) m.is op_is d r args.2 w (omega arith) in
          let among : is_in (filter (λ j. is_delay (equation s j)) slice) i ≡ true = in_filter (λ j. is_delay (equation s j)) slice i ∙ (λ k. is_delay (m.is k) && is_in slice i) ∙ (λ k. delay k && m.among k) in
          let waits = waiting before to (filter (λ j. is_delay (equation s j)) slice) fs wait all i among in
          let still = pending_still (z d) (z r) (z i) (suc before) (suc t) low (λ u from below. (past r u r_in from below, past i u m.among from below)) in
          let due : option_is (suc t) (pending (z d) (z r) (z i) (suc t)) ≡ false =
          ap (option_is (suc t)) still ∙ said i e m d r args.2 before waits.0 (omega arith) waits.2 (suc t) (omega arith) (omega arith) ∙ not_yet to (suc t) waits.0 high waits.1 in
          ap (λ xs. delayed z i xs (suc t)) args.2 ∙ delayed_is-due z i (suc t) d r kept ∙ (λ k. if due k then Some unit else None)

      quiet_at : (k i : ℕ) → rank i < k → IsTrue (is_in slice i) → z i (suc t) ≡ None
      quiet_at zero i below member = absurd (omega arith)
      quiet_at (suc k) i below member =
          let run = runs_member s whole o o_runs slice is p bound z solves sound i member in
          let found = whole.proper.runs_all i run in
          let e = found.0 in
          let m : IsMember s slice p i e = record { among = member; is = found.1 } in
          let lower = all_used (λ a. rank a < rank i) e.op e.args ((well_formed_ranked s formed).falls i e run found.1) in
          let inside = used_all (λ a. IsTrue (is_in slice a)) e.op e.args (all_from (λ a. IsTrue (is_in slice a)) e.args (λ a c. argument_in s whole o o_runs slice is p bound z solves sound i e m a c)) in
          let here = all_with (λ a. rank a < rank i) (λ a. IsTrue (is_in slice a)) (λ a. z a (suc t) ≡ None) (λ a less a_in. quiet_at k a (omega arith) a_in) (used_of e.op e.args) lower inside in
          solves.each i e run found.1 (suc t) lt
          ∙ case_of-inputs p (λ j u. None) z i (suc t) e (λ input. given.none i e m input (suc t) low high)
          ∙ case_of-quiet (λ j u. None) z i t refl e (has_arguments e.op e.args (shape_of s whole i e found.1)) (no_delay i e m) here

    quiet_up_to : (n : ℕ) → n ≤ suc to → n ≤ bound → (i u : ℕ) → IsTrue (is_in slice i) → suc before ≤ u → u < n → z i u ≡ None
    quiet_up_to zero high within i u member low below = absurd (omega arith)
    quiet_up_to (suc zero) high within i u member low below = absurd (omega arith)
    quiet_up_to (suc (suc t)) high within i u member low below = elim (cases_lt u (suc t)) [
      | inl earlier ↦ quiet_up_to (suc t) (omega arith) (omega arith) i u member low earlier
      | inr last ↦
          let same : suc t ≡ u = omega arith in
          subst (λ w. z i w ≡ None) same (quiet_at t (omega arith) (omega arith) (omega arith) (λ a v a_in from before_it. quiet_up_to (suc t) (omega arith) (omega arith) a v a_in from before_it) (suc (rank i)) i (omega arith) member)
    ]

    pub gap_says : Says s slice z bound (Gap (suc before) to)
    gap_says i member u low high lt = ap event (quiet_up_to (suc u) (omega arith) (omega arith) i u member low (omega arith))
