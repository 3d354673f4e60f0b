-- What a step makes of the events for which a monitor stands, by the laws of the register machine.
use Rattle.std.proofs.Common.{◌≡◌, ◌==◌, ℕ, suc, ◌+◌, ◌<◌, ◌≤◌, ◌^◌, true, false, ◌&&◌, List, [], ◌∷◌, ◌++◌, length, Option, Some, None, refl, sym, ap, subst, ◌∙◌, inl, inr, arith}
use Rattle.std.proofs.lemmas.Bool.{cases_Bool, cases_lt, and_parts, ne_eqb, false≢true, true≢false}
use Rattle.std.proofs.lemmas.List.{length-append}
use Rattle.std.specs.Prelude.{if◌then◌else◌, IsTrue, slice_get, slice_index, slice_index_or}
use Rattle.std.specs.Option.{option_map_or, option_or}
use Rattle.std.specs.List.{flat_map}
use Rattle.std.specs.FinMap as finite_map
use Rattle.tsl_value.specs.View.{View, Plain, is_of}
use Rattle.tsl_value.specs.declared.scalar.Scalar.{Scalar}
use Rattle.flat_core.specs.declared.equation.Equation.{Equation}
use Rattle.flat_core.specs.declared.equation.Output.{Output}
use Rattle.flat_core.specs.declared.equation.Op.{Op}
use Rattle.flat_core.specs.declared.equation.Op.TheVariants as op
use Rattle.flat_core.specs.Case.{Streams}
use Rattle.flat_core.specs.Fault.{is_faulty}
use Rattle.flat_core.specs.Instant.{instants, is_delay, is_delay_op, is_instant}
use Rattle.flat_core.specs.Line.{Line, event_in, inputs_of}
use Rattle.flat_core.specs.Solution.{Solves}
use Rattle.flat_core.specs.Stream.{event}
use Rattle.flat_core.specs.System.{System, equation, runs}
use Rattle.flat_core.specs.Text.{event_line, text_at}
use Rattle.flat_core.specs.inner.TypedLines.{AreTypedLines}
use Rattle.flat_core.proofs.SmallerBound.{solves_less}
use Rattle.flat_core.proofs.Shapes.{delay_args, one_equation}
use Rattle.flat_core.proofs.Answered.{delay_op}
use Rattle.flat_core.specs.Kept.{is_timer}
use Rattle.register_code.specs.inner.Plan.{IsPlanOrder}
use Rattle.register_machine.specs.Copied.{copied}
use Rattle.register_machine.specs.Laws.{Reaches, ShowsInstant}
use Rattle.register_machine.specs.Machine.{Config}
use Rattle.register_machine.specs.Run as machine_state
use Rattle.register_machine.specs.Run.{Instant, Runs, nothing_yet}
use Rattle.register_machine.specs.Stands.{IsGiven, RunsTo, in_time}
use Rattle.register_machine.specs.Stands as machine
use Rattle.register_machine.proofs.LaterRuns.{runs_on}
use Rattle.register_machine.proofs.Shown as laws
use Rattle.alias_rules.proofs.Ordered.{needed_order}
use Rattle.flat_core.proofs.Uniqueness.{all_by}
use Rattle.monitor_run.specs.inner.Given.{AreAt, AreBefore, AreEventLines}
use Rattle.monitor_run.specs.inner.Instant.{IsInstantText, name_of}
use Rattle.monitor_run.specs.inner.Next.{Comes, IsFirstInstant, NothingBefore}
use Rattle.monitor_run.specs.inner.Stands.{KeepsOf, Stands}
use Rattle.monitor_run.specs.inner.State.{State, IsReady, kept_state, plan_of}
use Rattle.flat_core.specs.Updates.{is_running_update}
use Rattle.monitor_run.proofs.DueTimes.{due_at, due_of, due_time}
use Rattle.monitor_run.proofs.OpenLemmas.{still_open}
use Rattle.monitor_run.proofs.GapLemmas.{comes, instants_gap, quiet, sound_gap}

pub both_none : (a b : Option View) → option_or a b ≡ None → (a ≡ None) × (b ≡ None)
both_none None b h = (refl, h)
both_none (Some v) b h = absurd (cc)

-- lines before a time give nothing at it
pub no_past_input : (n t i : ℕ) → n ≤ t → (past : List Line) → AreBefore n past → inputs_of past i t ≡ None
no_past_input n t i le [] all = refl
no_past_input n t i le (l ∷ past) all = let before = all.0 in λ k. option_or (none l.event k) (no_past_input n t i le past all.1 k)
  where
    none : (e : Option (ℕ × Scalar)) → event_in i t l.time e ≡ None
    none None = refl
    none (Some e) = λ k. if ne_eqb l.time t (λ same. let before = all.0 in absurd (omega arith)) k && (e.0 == i) then Some (Plain e.1) else None

-- nor do lines at an earlier time
pub none_at : (bound t i : ℕ) → bound < t → (given : List Line) → AreAt bound given → inputs_of given i t ≡ None
none_at bound t i late given at =
    no_past_input t t i (omega arith) given (all_by (λ (l : Line). l.time ≡ bound) (λ (l : Line). suc l.time ≤ t) (λ l here. omega arith) given at)

-- from the next instant on the events are the given ones
pub inputs_open : (m : State) (lines : List Line) → Stands m lines → (i u : ℕ) → m.next ≤ u → inputs_of lines i u ≡ inputs_of m.given i u
inputs_open m lines stands = still_open lines m.given m.next stands.events.once stands.kept stands.open_lines

-- event lines are typed
typed_lines : (s : System) (lines : List Line) → AreEventLines s lines → AreTypedLines s lines
typed_lines s [] all = tt
typed_lines s (l ∷ lines) all = (
  record {
    event = λ i v is e at.
        let same = pair_same all.0.input i all.0.value v (sym all.0.is ∙ is) in
        let fits = all.0.fits in
        let here : equation s i ≡ Some fits.at = ap (equation s) (sym same.0) ∙ fits.is in
        subst (λ x. IsTrue (is_of e.of (Plain x))) same.1 (subst (λ (f : Equation). IsTrue (is_of f.of (Plain all.0.value))) (one_equation s i e fits.at at here) fits.typed);
  },
  typed_lines s lines all.1,
)
  where
    pair_same : (a b : ℕ) (x y : Scalar) → ◌≡◌ {A = Option (ℕ × Scalar)} (Some (a, x)) (Some (b, y)) → (a ≡ b) × (x ≡ y)
    pair_same a b x y p = (ap (λ (o : Option (ℕ × Scalar)). option_map_or (λ (q : ℕ × Scalar). q.0) o a) p, ap (λ (o : Option (ℕ × Scalar)). option_map_or (λ (q : ℕ × Scalar). q.1) o x) p)

-- texts one after the other
concat_is : (f : Option Output → List ℕ) (outputs : List Output) (texts : List (List ℕ)) → length texts ≡ length outputs → ((k : ℕ) → k < length outputs → slice_index_or texts k [] ≡ f (slice_get outputs k)) → flat_map (λ x. x) texts ≡ flat_map (λ o. f (Some o)) outputs
concat_is f [] [] size each = refl
concat_is f [] (x ∷ texts) size each = absurd (omega arith)
concat_is f (o ∷ outputs) [] size each = absurd (omega arith)
concat_is f (o ∷ outputs) (x ∷ texts) size each =
    let here = each 0 (omega arith) in
    let rest = concat_is f outputs texts (omega arith) (λ k lt. each (suc k) (omega arith)) in
    λ j. here j ++ rest j

pub ready_order : (m : State) → IsReady m → IsPlanOrder m.system m.order
ready_order m ready = needed_order m.system m.in_place m.order ready.fine.ordered

module _ (m : State) (ready : IsReady m) (lines : List Line) (stands : Stands m lines) where
  pub order_is : IsPlanOrder m.system m.order
  order_is = needed_order m.system m.in_place m.order ready.fine.ordered

  pub given_at : (B : ℕ) → B ≤ 2 ^ 63 → (z : Streams) → Solves m.system (inputs_of lines) B z → IsGiven m.system (plan_of m) lines B z
  given_at B small z solves = record { flat = ready.whole; fine = ready.fine; typed_lines = typed_lines m.system lines stands.events.events; solves = solves; small = small }

  module _ (B : ℕ) (small : B ≤ 2 ^ 63) (reaches_to : m.next ≤ B) (z : Streams) (solves : Solves m.system (inputs_of lines) B z) where
    pub keeps : KeepsOf m lines z
    keeps = stands.keeps z (solves_less m.system (inputs_of lines) m.next B z reaches_to solves)

    standing : machine.Stands m.system (plan_of m) z m.next (kept_state m)
    standing = laws.stands m.system (plan_of m) lines B z (given_at B small z solves) m.next reaches_to (kept_state m) keeps.run

    -- when delays are due
    pub due : (i : ℕ) → finite_map.get m.timers i ≡ due_time m.system z m.next i
    due i = elim (cases_Bool (is_timer m.system i)) [
      | inl timer ↦
          let parts = and_parts (runs m.system i) (is_delay (equation m.system i)) timer in
          let f = ready.whole.proper.runs_all i parts.0 in
          let op_is = delay_op f.0.op (ap is_delay (sym f.1) ∙ parts.1) in
          let two = delay_args m.system ready.whole i f.0 f.1 op_is in
          standing.delays i two.0 two.1 f.0 parts.0 f.1 op_is two.2
          ∙ sym ((λ k. if parts.0 k then in_time (due_at (f.1 k) z i m.next) else None) ∙ (λ k. in_time (due_of z i (op_is k) (two.2 k) m.next)))
      | inr fails ↦ no_timer (finite_map.get m.timers i) refl fails ∙ sym (not_timer fails)
    ]
      where
        no_timer : (o : Option ℕ) → finite_map.get m.timers i ≡ o → is_timer m.system i ≡ false → o ≡ None
        no_timer None is fails = refl
        no_timer (Some u) is fails = absurd (false≢true (sym fails ∙ (ready.timers.each i u is).0))

        none_due : (o : Op) (args : List ℕ) → is_delay_op o ≡ false → in_time (due_of z i o args m.next) ≡ None
        none_due op.Delay args other = absurd (true≢false other)
        none_due o args other = refl

        not_timer : is_timer m.system i ≡ false → due_time m.system z m.next i ≡ None
        not_timer fails = elim (cases_Bool (runs m.system i)) [
          | inr idle ↦ λ k. if idle k then in_time (due_at (equation m.system i) z i m.next) else None
          | inl run ↦
              let f = ready.whole.proper.runs_all i run in
              let other : is_delay_op f.0.op ≡ false = ap is_delay (sym f.1) ∙ sym (λ k. run k && is_delay (equation m.system i)) ∙ fails in
              (λ k. if run k then in_time (due_at (f.1 k) z i m.next) else None) ∙ none_due f.0.op f.0.args other
        ]

    -- what running updates have copied
    pub counted : (u : ℕ) → IsTrue (is_running_update m.system u) → slice_index m.ledger u ≡ copied m.system m.in_place z u m.next
    counted u update = (laws.counts m.system (plan_of m) lines B z (given_at B small z solves) m.next reaches_to (kept_state m) keeps.run).between u update

    pub quiet_to : (t : ℕ) → t ≤ B → NothingBefore m.next m.given m.timers t → (u : ℕ) → m.next ≤ u → u < t → is_instant m.system lines z u ≡ false
    quiet_to t within none u low lt = quiet m.system ready.whole m.order order_is m.next lines m.given stands.kept stands.open_lines ready.events m.timers t B none (omega arith) within z solves due u low lt

-- ---- an instant comes next
module _ (m : State) (ready : IsReady m) (lines : List Line) (stands : Stands m lines) (t : ℕ) (late_enough : m.next ≤ t) (early : t < 2 ^ 63) (comes_now : Comes m.next m.given m.timers t) (none : NothingBefore m.next m.given m.timers t) where
  pub inputs_now : (i : ℕ) → inputs_of m.given i t ≡ inputs_of lines i t
  inputs_now i = sym (inputs_open m lines stands i t late_enough)

  module _ (z : Streams) (solves : Solves m.system (inputs_of lines) (suc t) z) where
    due_now : (i : ℕ) → finite_map.get m.timers i ≡ due_time m.system z m.next i
    due_now = due m ready lines stands (suc t) (omega arith) (omega arith) z solves

    pub here : is_instant m.system lines z t ≡ true
    here = comes m.system ready.whole m.order (order_is m ready lines stands) m.next lines m.given stands.kept stands.open_lines ready.events m.timers t (suc t) none (omega arith) (omega arith) z solves due_now late_enough (omega arith) early comes_now

    -- it is the first that has not run
    pub is_first : t < m.bound → IsFirstInstant m.system lines z m.next m.bound t
    is_first below = record { late = late_enough; early = below; comes = here; first = λ u low lt. quiet_to m ready lines stands (suc t) (omega arith) (omega arith) z solves t (omega arith) none u low lt }

    -- what no root fault came before
    pub sound_before : (u : ℕ) → u < t → is_faulty m.system (inputs_of lines) z u ≡ false
    sound_before u lt = elim (cases_lt u m.next) [
      | inl before ↦ (keeps m ready lines stands (suc t) (omega arith) (omega arith) z solves).sound u before
      | inr from ↦ sound_gap m.system ready.whole m.order (order_is m ready lines stands) m.next lines m.given stands.kept stands.open_lines ready.events m.timers t (suc t) none (omega arith) (omega arith) z solves due_now u from lt
    ]

    gap : instants m.system lines z t ≡ instants m.system lines z m.next
    gap = instants_gap m.system ready.whole m.order (order_is m ready lines stands) m.next lines m.given stands.kept stands.open_lines ready.events m.timers t (suc t) none (omega arith) (omega arith) z solves due_now late_enough

    -- the run of the machine has come to t
    pub run_now : RunsTo m.system (plan_of m) lines z t (kept_state m)
    run_now = subst (λ ts. Runs m.system (plan_of m) (inputs_of lines) ts nothing_yet (kept_state m)) (sym gap) (keeps m ready lines stands (suc t) (omega arith) (omega arith) z solves).run

    pub one_more : m.ran + 1 ≡ length (instants m.system lines z (suc t))
    one_more =
        let more : instants m.system lines z (suc t) ≡ instants m.system lines z m.next ++ t ∷ [] = (λ k. instants m.system lines z t ++ (if here k then t ∷ [] else [])) ∙ ap (λ ts. ts ++ t ∷ []) gap in
        let count = length-append (instants m.system lines z m.next) (t ∷ []) in
        let kept = (keeps m ready lines stands (suc t) (omega arith) (omega arith) z solves).ran in
        omega (arith, ap length more)

    pub shown : ShowsInstant m.system (plan_of m) lines z t (kept_state m)
    shown = laws.shows m.system (plan_of m) lines (suc t) z (given_at m ready lines stands (suc t) (omega arith) z solves) t (omega arith) (kept_state m) run_now

    -- the text of the instant
    pub text_now : (text : List ℕ) → IsInstantText m.system (plan_of m) (inputs_of lines) t (kept_state m) text → text ≡ text_at m.system z t
    text_now text is =
        is.is
        ∙ concat_is (λ o. event_line t (name_of o) (event (z (option_map_or (λ (q : Output). q.equation) o 0) t))) m.system.outputs is.texts is.each
        (λ k lt. let p = is.printed k lt in p.text_is ∙ ap (event_line t (name_of (slice_get m.system.outputs k))) (shown.prints p.before p.after k p.mid p.is p.leads))

    -- the run goes on over it
    pub run_on_now : (b : machine_state.State) → Instant m.system (plan_of m) (inputs_of lines) t (kept_state m) b → RunsTo m.system (plan_of m) lines z (suc t) b
    run_on_now b instant = (runs_on m.system (plan_of m) lines z t (kept_state m) run_now).over_instant here b instant

    pub sound_now : (b : machine_state.State) → Instant m.system (plan_of m) (inputs_of lines) t (kept_state m) b → is_faulty m.system (inputs_of lines) z t ≡ false
    sound_now b instant = sym (shown.some_root_fault instant.reached instant.ran) ∙ instant.sound

    -- what updates have copied at the last print
    pub copied_now : (c : Config) → Reaches m.system (plan_of m) lines t (kept_state m) c → (u : ℕ) → IsTrue (is_running_update m.system u) → c.ledger u ≡ copied m.system m.in_place z u (suc t)
    copied_now c reaches u update =
        (laws.counts m.system (plan_of m) lines (suc t) z (given_at m ready lines stands (suc t) (omega arith) z solves) t (omega arith) (kept_state m) run_now).within (omega arith) c reaches u update
