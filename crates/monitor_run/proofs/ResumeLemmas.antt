-- A monitor that goes on from a state stands for all events that the state comes after.
use Rattle.std.proofs.Common.{◌≡◌, ℕ, ◌≤◌, List, [], ◌∷◌, length, Contains, Some, refl, sym, ap, subst, ◌∙◌, inl, inr, arith}
use Rattle.std.proofs.lemmas.Bool.{cases_lt}
use Rattle.std.specs.FinMap as finite_map
use Rattle.std.specs.Ordering.{nat_cmp}
use Rattle.tsl_value.specs.declared.scalar.Scalar.{Scalar}
use Rattle.tsl_value.specs.View.{View, Plain}
use Rattle.flat_core.specs.Case.{Streams}
use Rattle.flat_core.specs.Complete.{IsFlat}
use Rattle.flat_core.specs.Events.{Inputs}
use Rattle.flat_core.specs.Instant.{instants}
use Rattle.flat_core.specs.Line.{Line, inputs_of}
use Rattle.flat_core.specs.Solution.{Solves}
use Rattle.flat_core.specs.System.{System}
use Rattle.flat_core.proofs.Members.{all_at}
use Rattle.alias_rules.specs.Fine.{IsFinePlan}
use Rattle.register_machine.specs.Run as run
use Rattle.register_machine.specs.Stands.{RunsTo}
use Rattle.register_machine.specs.Tidy.{IsTidy}
use Rattle.register_machine.proofs.Renamings.{runs_renamed}
use Rattle.register_machine.proofs.TidyRuns.{instants_tidy}
use Rattle.monitor_state.specs.declared.state.MonitorState.{MonitorState}
use Rattle.monitor_run.specs.inner.Given.{IsEventLine, line_of}
use Rattle.monitor_run.specs.inner.Resumed.{IsSavedAs, IsShownAfter, IsStateAfter}
use Rattle.monitor_run.specs.inner.Stands.{KeepsOf, Stands}
use Rattle.monitor_run.specs.inner.State.{State, kept_state, plan_of}
use Rattle.monitor_run.proofs.OpenLemmas.{input_in, input_once, input_there}
use Rattle.monitor_run.proofs.ShownStates.{alike_shown}

-- ---- runs are tidy

nothing_tidy : (s : System) → IsTidy s run.nothing_yet
nothing_tidy s = record {
  lasts = λ v. inl refl;
  there = λ v h is. absurd (cc);
  named = λ h view is. let nothing = sym (finite_map.get-empty nat_cmp h) ∙ is in absurd (cc);
  ledger = λ u none. refl;
  pending = λ i. inl refl;
}

runs_tidy : (s : System) (plan : run.Plan) (inputs : Inputs) → IsFlat s → IsFinePlan s plan.in_place plan.order → (times : List ℕ) (a b : run.State) → IsTidy s a → run.Runs s plan inputs times a b → IsTidy s b
runs_tidy s plan inputs whole fine [] a b tidy ran = subst (IsTidy s) (sym ran) tidy
runs_tidy s plan inputs whole fine (t ∷ times) a b tidy ran =
    runs_tidy s plan inputs whole fine times ran.0 b (instants_tidy s plan inputs t a ran.0 whole fine tidy ran.1) ran.2

-- ---- lines

plain_same : {v w : Scalar} → Plain v ≡ Plain w → v ≡ w
plain_same e = cc

some_plain : {v : Scalar} {w : View} → Some (Plain v) ≡ Some w → Plain v ≡ w
some_plain e = cc

-- a line with an event is one of that event
line_is : (s : System) (l : Line) (e : IsEventLine s l) → l ≡ line_of l.time e.input e.value
line_is s l e = λ k. record { time = l.time; event = e.is k }

module _ (m : State) (st : MonitorState) (lines : List Line) (level : m.next ≡ m.bound) (saved : IsSavedAs m st) (after : IsStateAfter m.system (plan_of m) lines st) where
  has_bound : st.bound ≡ m.bound
  has_bound = saved.state.bound

  same_inputs : (i : ℕ) → inputs_of lines i m.bound ≡ inputs_of m.given i m.bound
  same_inputs i = sym (after.open_events.values i ∙ ap (inputs_of lines i) has_bound) ∙ saved.state.open_events.values i

  -- an event that the one list has at the bound is one of the other
  moved : (xs ys : List Line) (i : ℕ) (v : Scalar) → inputs_of xs i m.bound ≡ Some (Plain v) → inputs_of ys i m.bound ≡ inputs_of xs i m.bound → Contains ys (line_of m.bound i v)
  moved xs ys i v is same =
      let found = input_in i m.bound ys (Plain v) (same ∙ is) in
      subst (λ w. Contains ys (line_of m.bound i w)) (sym (plain_same found.2)) found.1

  kept : (l : Line) → Contains m.given l → Contains lines l
  kept l there =
      let e = all_at (IsEventLine m.system) m.given saved.ready.events l there in
      let at = all_at (λ (x : Line). x.time ≡ m.bound) m.given saved.can.at_bound l there in
      let is : l ≡ line_of m.bound e.input e.value = line_is m.system l e ∙ ap (λ t. line_of t e.input e.value) at in
      let given = input_once e.input m.bound e.value m.given saved.ready.once (subst (Contains m.given) is there) in
      subst (Contains lines) (sym is) (moved m.given lines e.input e.value given (same_inputs e.input))

  at_bound : (l : Line) (e : IsEventLine m.system l) → Contains lines l → m.next ≤ l.time → l.time ≡ m.bound
  at_bound l e there low = elim (cases_lt st.bound l.time) [
    | inl late ↦
        absurd (input_there e.input l.time e.value lines (subst (Contains lines) (line_is m.system l e) there) (after.none_later e.input l.time late))
    | inr early ↦ let b = has_bound in let n = level in omega arith
  ]

  open_lines : (l : Line) → Contains lines l → m.next ≤ l.time → Contains m.given l
  open_lines l there low =
      let e = all_at (IsEventLine m.system) lines after.events.events l there in
      let is : l ≡ line_of m.bound e.input e.value = line_is m.system l e ∙ ap (λ t. line_of t e.input e.value) (at_bound l e there low) in
      let event = input_once e.input m.bound e.value lines after.events.once (subst (Contains lines) is there) in
      subst (Contains m.given) (sym is) (moved lines m.given e.input e.value event (sym (same_inputs e.input)))

  module _ (z : Streams) (solves : Solves m.system (inputs_of lines) m.next z) where
    bound_is : st.bound ≡ m.next
    bound_is = has_bound ∙ sym level

    shown : IsShownAfter m.system (plan_of m) lines z st
    shown = after.each z (subst (λ n. Solves m.system (inputs_of lines) n z) (sym bound_is) solves)

    reached_tidy : IsTidy m.system shown.reached
    reached_tidy =
        runs_tidy m.system (plan_of m) (inputs_of lines) saved.ready.whole saved.ready.fine (instants m.system lines z st.bound) run.nothing_yet shown.reached
        (nothing_tidy m.system) shown.ran

    keeps : KeepsOf m lines z
    keeps =
        let alike = alike_shown m.system shown.reached (kept_state m) st reached_tidy saved.ready.tidy shown.shows saved.state.machine saved.ready.whole.proper in
        record {
          run = subst (λ n. RunsTo m.system (plan_of m) lines z n (kept_state m)) bound_is
              (runs_renamed m.system (plan_of m) lines z st.bound alike.0 shown.reached (kept_state m) alike.1 shown.ran);
          ran = sym saved.state.instants ∙ shown.instants ∙ ap (λ n. length (instants m.system lines z n)) bound_is;
          sound = λ t lt. shown.sound t (let b = bound_is in omega arith);
        }

  pub resumed : Stands m lines
  resumed = record {
    going = saved.can.going;
    events = after.events;
    kept = kept;
    open_lines = open_lines;
    keeps = keeps;
  }
