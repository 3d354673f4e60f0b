-- Between two instants nothing happens, and what is kept goes on to the next.
use Rattle.std.proofs.Common.{◌≡◌, ◌==◌, ℕ, zero, suc, ◌+◌, ◌<◌, ◌≤◌, ◌^◌, ◌-◌, true, false, ◌&&◌, ◌||◌, List, [], ◌∷◌, ◌++◌, Option, Some, None, refl, sym, ap, subst, ◌∙◌, append-nil, inl, inr, arith}
use Rattle.std.proofs.lemmas.Bool.{cases_Bool, cases_lt, eq-eqb, ne_eqb, lt-ltb, or_left, or_right, true≢false}
use Rattle.std.specs.Prelude.{if◌then◌else◌, is_some, min, nat_lt, IsTrue}
use Rattle.std.specs.List.{AllByRecursion, Contains, list_any}
use Rattle.std.specs.FinMap as finite_map
use Rattle.std.proofs.Math.Bool.{and-false}
use Rattle.delay_timers.specs.inner.Pending.{Times}
use Rattle.flat_core.specs.declared.equation.Equation.{Equation}
use Rattle.flat_core.specs.declared.equation.Op.{Op}
use Rattle.flat_core.specs.declared.equation.Op.TheVariants as op
use Rattle.flat_core.specs.Case.{Streams}
use Rattle.flat_core.specs.Complete.{IsFlat}
use Rattle.flat_core.specs.inner.BoundLaws.{HappensAtInstants}
use Rattle.flat_core.specs.Fault.{is_faulty}
use Rattle.flat_core.specs.Instant.{instants, is_delay, is_delay_op, is_instant}
use Rattle.flat_core.specs.Line.{Line, inputs_of, is_line_on}
use Rattle.flat_core.specs.Pending.{option_is, pending}
use Rattle.flat_core.specs.Solution.{Solves}
use Rattle.flat_core.specs.Stream.{event, has_event}
use Rattle.flat_core.specs.System.{System, equation, runs}
use Rattle.flat_core.specs.WellFormed.{IsRanked}
use Rattle.flat_core.proofs.DueLemmas.{delay_kept, expires_is-due, option_is-some, some-option_is}
use Rattle.flat_core.proofs.Members.{all_at, none_from, some_from}
use Rattle.flat_core.proofs.Silence.{happens_at_instants}
use Rattle.flat_core.proofs.StillLemmas.{pending_still}
use Rattle.alias_rules.specs.Steps.{MustPrecede}
use Rattle.alias_rules.proofs.Ranks.{order_ranked, place}
use Rattle.register_code.specs.inner.Plan.{IsPlanOrder}
use Rattle.register_machine.specs.Stands.{in_time}
use Rattle.flat_core.specs.Members.{is_in}
use Rattle.register_machine.specs.Copied.{args_of, copied, copied_at, size_at, total_copied}
use Rattle.monitor_run.proofs.DueTimes.{due_at, due_of, due_time}
use Rattle.monitor_run.specs.inner.Given.{AreEventLines, IsEventLine}
use Rattle.monitor_run.proofs.OpenLemmas.{line_in, line_on}
use Rattle.monitor_run.specs.inner.Next.{Comes, NothingBefore}
use Rattle.flat_core.proofs.Shapes.{delay_args, running_args}
use Rattle.flat_core.proofs.Answered.{delay_op}

pub plan_ranked : (s : System) (order : List ℕ) → IsPlanOrder s order → IsRanked s (place order)
plan_ranked s order plan = order_ranked s (MustPrecede s) (λ a b must. must) order plan

-- ---- numbers of the ledger
pub copied_still : (s : System) (set : List ℕ) (z : Streams) (u t : ℕ) → has_event (z u t) ≡ false → copied s set z u (suc t) ≡ copied s set z u t
copied_still s set z u t none = ap (λ n. if is_in set u then 0 else min n (2 ^ 64 - 1)) (still (args_of (equation s u)))
  where
    still : (args : List ℕ) → total_copied s z u t + copied_at z u args t ≡ total_copied s z u t
    still [] = omega arith
    still (m ∷ args) = let nothing : copied_at z u (m ∷ args) t ≡ 0 = (λ k. if none k then size_at (event (z m t)) else 0) in omega arith

-- ---- times that come
pub in_time_is : (t : ℕ) (o : Option ℕ) → t < 2 ^ 63 → option_is t (in_time o) ≡ option_is t o
in_time_is t None lt = refl
in_time_is t (Some u) lt = elim (cases_Bool (nat_lt u (2 ^ 63))) [
  | inl early ↦ λ k. option_is t (if early k then Some u else None)
  | inr late ↦ (λ k. option_is t (if late k then Some u else None)) ∙ sym (ne_eqb u t (λ same. true≢false (sym (lt-ltb u (2 ^ 63) (omega arith)) ∙ late)))
]

-- ---- a gap
module _ (s : System) (whole : IsFlat s) (order : List ℕ) (plan : IsPlanOrder s order) (n : ℕ) (lines given : List Line) (kept : (l : Line) → Contains given l → Contains lines l) (all : (l : Line) → Contains lines l → n ≤ l.time → Contains given l) (events : AreEventLines s given) (timers : Times)
    (t B : ℕ) (none : NothingBefore n given timers t) (small : t ≤ 2 ^ 63) (within : t ≤ B) (z : Streams) (solves : Solves s (inputs_of lines) B z) (due : (i : ℕ) → finite_map.get timers i ≡ due_time s z n i) where
  happens : HappensAtInstants s lines B z
  happens = happens_at_instants s lines z B whole.proper whole.complete.typed (place order) (plan_ranked s order plan) solves

  -- no line stands at a time from n on and before t
  no_line : (u : ℕ) → n ≤ u → u < t → is_line_on u lines ≡ false
  no_line u low lt = elim (cases_Bool (is_line_on u lines)) [
    | inr none_on ↦ none_on
    | inl on ↦
        let found = line_in u lines on in
        let at = found.2 in
        let late = all_at (λ (l : Line). t ≤ l.time) given none.events found.0 (all found.0 found.1 (omega arith)) in
        absurd (omega arith)
  ]

  -- what is pending of a delay at a time up to which nothing happened
  module _ (u : ℕ) (low : n ≤ u) (high : u ≤ t) (silent : (i w : ℕ) → IsTrue (runs s i) → n ≤ w → w < u → z i w ≡ None) (i : ℕ) (e : Equation) (run : IsTrue (runs s i)) (is : equation s i ≡ Some e) where
    still : (d r : ℕ) → e.args ≡ d ∷ r ∷ [] → pending (z d) (z r) (z i) u ≡ pending (z d) (z r) (z i) n
    still d r args_are =
        let all = subst (AllByRecursion (λ a. IsTrue (runs s a))) args_are (running_args s whole.proper i e run is) in
        pending_still (z d) (z r) (z i) n u low (λ w from to. (silent r w all.1.0 from to, silent i w run from to))

    due_is : e.op ≡ op.Delay → (d r : ℕ) → e.args ≡ d ∷ r ∷ [] → finite_map.get timers i ≡ in_time (pending (z d) (z r) (z i) u)
    due_is op_is d r args_are =
        due i ∙ (λ k. if run k then in_time (due_at (is k) z i n) else None) ∙ (λ k. in_time (due_of z i (op_is k) (args_are k) n)) ∙ ap in_time (sym (still d r args_are))

    -- an event of a delay at u is one that was due
    event_is_due : u < B → u < 2 ^ 63 → e.op ≡ op.Delay → (d r : ℕ) → e.args ≡ d ∷ r ∷ [] → has_event (z i u) ≡ option_is u (finite_map.get timers i)
    event_is_due lt early op_is d r args_are =
        delay_kept s (inputs_of lines) z B solves i e run is op_is d r args_are u lt
        ∙ expires_is-due (z d) (z r) (z i) u (λ w before. delay_kept s (inputs_of lines) z B solves i e run is op_is d r args_are w (omega arith))
        ∙ sym (in_time_is u (pending (z d) (z r) (z i) u) early) ∙ ap (option_is u) (sym (due_is op_is d r args_are))

  not_before : (i u : ℕ) → u < t → option_is u (finite_map.get timers i) ≡ false
  not_before i u lt = elim (cases_Bool (option_is u (finite_map.get timers i))) [
    | inl holds ↦ let late = none.delays i u (option_is-some u (finite_map.get timers i) holds) in absurd (omega arith)
    | inr no_not ↦ no_not
  ]

  -- no instant comes, time by time
  module _ (k : ℕ) (early : k < t) (from : n ≤ k) (before : (w : ℕ) → n ≤ w → w < k → is_instant s lines z w ≡ false) where
    silent : (i w : ℕ) → IsTrue (runs s i) → n ≤ w → w < k → z i w ≡ None
    silent i w run low lt = happens.silent w (omega arith) (before w low lt) i run

    not_zero : (k == 0) ≡ false
    not_zero = ne_eqb k 0 (λ is. let first = none.start (omega arith) in absurd (omega arith))

    no_delay : (i : ℕ) → IsTrue (runs s i) → (is_delay (equation s i) && has_event (z i k)) ≡ false
    no_delay i run =
        let f = whole.proper.runs_all i run in
        elim (cases_Bool (is_delay_op f.0.op)) [
          | inr other ↦ (λ j. (ap is_delay f.1 ∙ other) j && has_event (z i k))
          | inl timer ↦
              let op_is = delay_op f.0.op timer in
              let two = delay_args s whole i f.0 f.1 op_is in
              let quiet_delay = event_is_due k from (omega arith) silent i f.0 run f.1 (omega arith) (omega arith) op_is two.0 two.1 two.2 ∙ not_before i k early in
              (λ j. is_delay (equation s i) && quiet_delay j) ∙ and-false (is_delay (equation s i))
        ]

    quiet_at : is_instant s lines z k ≡ false
    quiet_at = let line = no_line k from early in let delay = none_from (λ i. is_delay (equation s i) && has_event (z i k)) s.running no_delay in λ j. not_zero j || line j || delay j

  quiet_to : (k : ℕ) → k ≤ t → (u : ℕ) → n ≤ u → u < k → is_instant s lines z u ≡ false
  quiet_to zero le u low lt = absurd (omega arith)
  quiet_to (suc k) le u low lt = elim (cases_lt u k) [
    | inl before ↦ quiet_to k (omega arith) u low before
    | inr level ↦
        let same : k ≡ u = omega arith in
        subst (λ w. is_instant s lines z w ≡ false) same (quiet_at k (omega arith) (omega arith) (quiet_to k (omega arith)))
  ]

  pub quiet : (u : ℕ) → n ≤ u → u < t → is_instant s lines z u ≡ false
  quiet u low lt = quiet_to t (omega arith) u low lt

  pub silent_gap : (i u : ℕ) → IsTrue (runs s i) → n ≤ u → u < t → z i u ≡ None
  silent_gap i u run low lt = happens.silent u (omega arith) (quiet u low lt) i run

  pub sound_gap : (u : ℕ) → n ≤ u → u < t → is_faulty s (inputs_of lines) z u ≡ false
  sound_gap u low lt = happens.sound u (omega arith) (quiet u low lt)

  instants_to : (k : ℕ) → n ≤ k → k ≤ t → instants s lines z k ≡ instants s lines z n
  instants_to zero low le = let same : zero ≡ n = omega arith in ap (instants s lines z) same
  instants_to (suc k) low le = elim (cases_lt k n) [
    | inl end ↦ let same : suc k ≡ n = omega arith in ap (instants s lines z) same
    | inr more ↦ (λ j. instants s lines z k ++ (if quiet k more (omega arith) j then k ∷ [] else [])) ∙ append-nil (instants s lines z k) ∙ instants_to k more (omega arith)
  ]

  pub instants_gap : n ≤ t → instants s lines z t ≡ instants s lines z n
  instants_gap le = instants_to t le (omega arith)

  -- whether a delay has an event at t
  module _ (le : n ≤ t) (i : ℕ) (e : Equation) (run : IsTrue (runs s i)) (is : equation s i ≡ Some e) (op_is : e.op ≡ op.Delay) (d r : ℕ) (args_are : e.args ≡ d ∷ r ∷ []) where
    pub event_at_t : t < B → t < 2 ^ 63 → has_event (z i t) ≡ option_is t (finite_map.get timers i)
    event_at_t lt early = event_is_due t le (omega arith) (λ j w run_j from to. silent_gap j w run_j from to) i e run is lt early op_is d r args_are

  -- an instant comes at t
  pub comes : n ≤ t → t < B → t < 2 ^ 63 → Comes n given timers t → is_instant s lines z t ≡ true
  comes le lt early (inl start) = λ k. eq-eqb t 0 start.1 k || is_line_on t lines || list_any (λ i. is_delay (equation s i) && has_event (z i t)) s.running
  comes le lt early (inr (inl line)) =
      let event = all_at (IsEventLine s) given events line.0 line.1 in
      let on = line_on t lines line.0 (kept line.0 line.1) (λ k. eq-eqb line.0.time t line.2 k && is_some (event.is k)) in
      or_left ((t == 0) || is_line_on t lines) (list_any (λ i. is_delay (equation s i) && has_event (z i t)) s.running) (or_right (t == 0) (is_line_on t lines) on)
  comes le lt early (inr (inr timer)) =
      or_right ((t == 0) || is_line_on t lines) (list_any (λ i. is_delay (equation s i) && has_event (z i t)) s.running)
      (some_from (λ i. is_delay (equation s i) && has_event (z i t)) s.running timer.0 run (λ k. (ap is_delay f.1 ∙ delay_is) k && (event_at_t le timer.0 f.0 run f.1 op_is two.0 two.1 two.2 lt early ∙ some-option_is t (finite_map.get timers timer.0) timer.1) k))
    where
      run : runs s timer.0 ≡ true
      run = elim (cases_Bool (runs s timer.0)) [
        | inl holds ↦ holds
        | inr idle ↦ let nothing : Some t ≡ None = sym timer.1 ∙ due timer.0 ∙ (λ k. if idle k then in_time (due_at (equation s timer.0) z timer.0 n) else None) in absurd (cc)
      ]

      f : (e : Equation) × (equation s timer.0 ≡ Some e) × AllByRecursion (λ a. IsTrue (runs s a)) e.args
      f = whole.proper.runs_all timer.0 run

      delay_is : is_delay_op f.0.op ≡ true
      delay_is = elim (cases_Bool (is_delay_op f.0.op)) [
        | inl holds ↦ holds
        | inr other ↦ absurd (no_due f.0.op f.0.args other (sym (sym timer.1 ∙ due timer.0 ∙ (λ k. if run k then in_time (due_at (f.1 k) z timer.0 n) else None))))
      ]
        where
          no_due : (o : Op) (args : List ℕ) → is_delay_op o ≡ false → in_time (due_of z timer.0 o args n) ≡ Some t → ⊥
          no_due op.Delay args other is = true≢false other
          no_due o args other is = absurd (cc)

      op_is : f.0.op ≡ op.Delay
      op_is = delay_op f.0.op delay_is

      two : (d : ℕ) × (r : ℕ) × (f.0.args ≡ d ∷ r ∷ [])
      two = delay_args s whole timer.0 f.0 f.1 op_is
