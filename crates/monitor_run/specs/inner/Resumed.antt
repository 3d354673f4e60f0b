-- The state after some events, and the laws of saving and resuming: the state of a monitor is that after what it stands for, there is one
-- such state, and what goes on from it stands for the same.
use Rattle.std.specs.Prelude.{◌≡◌, ℕ, ◌<◌, List, length, None, IsFalse}
use Rattle.flat_core.specs.Case.{Streams}
use Rattle.flat_core.specs.Fault.{is_faulty}
use Rattle.flat_core.specs.Instant.{instants}
use Rattle.flat_core.specs.Line.{Line, inputs_of}
use Rattle.flat_core.specs.Solution.{Solves}
use Rattle.flat_core.specs.System.{System}
use Rattle.register_machine.specs.Run as run
use Rattle.register_machine.specs.Stands.{RunsTo}
use Rattle.monitor_state.specs.declared.state.MonitorState.{MonitorState}
use Rattle.monitor_run.specs.inner.Given.{AreGiven}
use Rattle.monitor_run.specs.inner.Saved.{AreOpenAt, CanSave, HasState, ShowsMachine}
use Rattle.monitor_run.specs.inner.Stands.{Stands}
use Rattle.monitor_run.specs.inner.State.{State, IsReady, plan_of}

-- A run of the register machine has come to what the state shows, over all instants of streams z below the bound. So many instants were
-- there, and no root fault was among them.
pub record IsShownAfter (s : System) (plan : run.Plan) (lines : List Line) (z : Streams) (st : MonitorState) : Type 0 where
  pub reached : run.State
  pub ran : RunsTo s plan lines z st.bound reached
  pub shows : ShowsMachine s reached st
  pub instants : st.instants ≡ length (instants s lines z st.bound)
  pub sound : (t : ℕ) → t < st.bound → IsFalse (is_faulty s (inputs_of lines) z t)

-- This is the state after these events, of which the last stand at its bound: it is what each solution below the bound leaves, and the
-- open events are those at the bound.
pub record IsStateAfter (s : System) (plan : run.Plan) (lines : List Line) (st : MonitorState) : Type 0 where
  pub events : AreGiven s lines
  pub open_events : AreOpenAt lines st.bound st.open_events
  pub none_later : (i t : ℕ) → st.bound < t → inputs_of lines i t ≡ None
  pub each : (z : Streams) → Solves s (inputs_of lines) st.bound z → IsShownAfter s plan lines z st

-- a monitor from which a state can be taken, and the state
pub record IsSavedAs (m : State) (st : MonitorState) : Type 0 where
  pub ready : IsReady m
  pub can : CanSave m
  pub state : HasState m st

-- what is saved is the state after all events for which the monitor stands
abbrev pub SavesTheState : Type 0
SavesTheState =
    (m : State) (st : MonitorState) (lines : List Line)
    → IsSavedAs m st
    → Stands m lines
    → IsStateAfter m.system (plan_of m) lines st

-- A monitor that goes on from a state stands for all events that the state comes after. It counts all times below the bound as run.
abbrev pub ResumesTheState : Type 0
ResumesTheState =
    (m : State) (st : MonitorState) (lines : List Line)
    → m.next ≡ m.bound
    → IsSavedAs m st
    → IsStateAfter m.system (plan_of m) lines st
    → Stands m lines

-- There is one state after some events, at a bound: whether a run was interrupted before does not show in it.
abbrev pub OneStateAfter : Type 0
OneStateAfter =
    (m : State) (a b : MonitorState) (lines : List Line)
    → IsReady m
    → a.bound ≡ m.bound
    → b.bound ≡ m.bound
    → IsStateAfter m.system (plan_of m) lines a
    → IsStateAfter m.system (plan_of m) lines b
    → a ≡ b
