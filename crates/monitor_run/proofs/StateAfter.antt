-- What is saved of a monitor is the state after all events for which it stands.
use Rattle.std.proofs.Common.{◌≡◌, ℕ, ◌<◌, ◌≤◌, List, length, sym, ap, subst, ◌∙◌, inl, inr, arith}
use Rattle.std.specs.Prelude.{IsFalse}
use Rattle.std.proofs.lemmas.Bool.{cases_lt}
use Rattle.flat_core.specs.Case.{Streams}
use Rattle.flat_core.specs.Fault.{is_faulty}
use Rattle.flat_core.specs.Instant.{instants}
use Rattle.flat_core.specs.Line.{Line, inputs_of}
use Rattle.flat_core.specs.Solution.{Solves}
use Rattle.register_machine.specs.Run.{Runs, nothing_yet}
use Rattle.monitor_state.specs.declared.state.MonitorState.{MonitorState}
use Rattle.monitor_run.specs.inner.Resumed.{IsSavedAs, IsShownAfter, IsStateAfter}
use Rattle.monitor_run.specs.inner.Stands.{Stands}
use Rattle.monitor_run.specs.inner.State.{State, kept_state, plan_of}
use Rattle.monitor_run.proofs.GapLemmas.{instants_gap, sound_gap}
use Rattle.monitor_run.proofs.StepLemmas.{due, inputs_open, keeps, none_at, order_is}

module _ (m : State) (st : MonitorState) (lines : List Line) (saved : IsSavedAs m st) (stands : Stands m lines) where
  within : m.next ≤ m.bound
  within = saved.ready.within

  module _ (z : Streams) (solves : Solves m.system (inputs_of lines) m.bound z) where
    same : instants m.system lines z m.bound ≡ instants m.system lines z m.next
    same =
        instants_gap m.system saved.ready.whole m.order (order_is m saved.ready lines stands) m.next lines m.given stands.kept stands.open_lines
        saved.ready.events m.timers m.bound m.bound saved.can.idle saved.ready.in_time (omega arith) z solves
        (due m saved.ready lines stands m.bound saved.ready.in_time within z solves) within

    sound : (t : ℕ) → t < m.bound → IsFalse (is_faulty m.system (inputs_of lines) z t)
    sound t lt = elim (cases_lt t m.next) [
      | inl before ↦ (keeps m saved.ready lines stands m.bound saved.ready.in_time within z solves).sound t before
      | inr from ↦
          sound_gap m.system saved.ready.whole m.order (order_is m saved.ready lines stands) m.next lines m.given stands.kept stands.open_lines
          saved.ready.events m.timers m.bound m.bound saved.can.idle saved.ready.in_time (omega arith) z solves
          (due m saved.ready lines stands m.bound saved.ready.in_time within z solves) t from lt
    ]

    shown : IsShownAfter m.system (plan_of m) lines z (record st { bound = m.bound })
    shown =
        let keep = keeps m saved.ready lines stands m.bound saved.ready.in_time within z solves in
        let has = saved.state.machine in
        record {
          reached = kept_state m;
          ran = subst (λ ts. Runs m.system (plan_of m) (inputs_of lines) ts nothing_yet (kept_state m)) (sym same) keep.run;
          shows = record { ledger = has.ledger; registers = has.registers; cells = has.cells; pending = has.pending };
          instants = saved.state.instants ∙ keep.ran ∙ sym (ap length same);
          sound = sound;
        }

  with_bound : ◌≡◌ {A = MonitorState} (record st { bound = m.bound }) st
  with_bound = λ k. record st { bound = sym saved.state.bound k }

  pub state_after : IsStateAfter m.system (plan_of m) lines st
  state_after = subst (IsStateAfter m.system (plan_of m) lines) with_bound (record {
    events = stands.events;
    open_events = record {
      values = λ i. saved.state.open_events.values i ∙ sym (inputs_open m lines stands i m.bound within);
      by_equation = saved.state.open_events.by_equation;
    };
    none_later = λ i t late. inputs_open m lines stands i t (omega (arith, within, late)) ∙ none_at m.bound t i late m.given saved.can.at_bound;
    each = shown;
  })
