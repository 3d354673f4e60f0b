-- The events for which a monitor stands.
use Rattle.std.specs.Prelude.{◌≡◌, ℕ, ◌<◌, ◌≤◌, List, length, None, IsFalse}
use Rattle.std.specs.List.{Contains}
use Rattle.flat_core.specs.Case.{Streams}
use Rattle.flat_core.specs.Fault.{is_faulty}
use Rattle.flat_core.specs.Instant.{instants}
use Rattle.flat_core.specs.Line.{Line, inputs_of}
use Rattle.flat_core.specs.Solution.{Solves}
use Rattle.register_machine.specs.Stands.{RunsTo}
use Rattle.monitor_run.specs.inner.Given.{AreGiven}
use Rattle.monitor_run.specs.inner.State.{State, kept_state, plan_of}

-- What the monitor keeps is a state of the register machine, to which a run has come over the instants of streams z before `next`. So
-- many instants were there, and no root fault was among them.
pub record KeepsOf (m : State) (lines : List Line) (z : Streams) : Type 0 where
  pub run : RunsTo m.system (plan_of m) lines z m.next (kept_state m)
  pub ran : m.ran ≡ length (instants m.system lines z m.next)
  pub sound : (t : ℕ) → t < m.next → IsFalse (is_faulty m.system (inputs_of lines) z t)

-- These events were given: those from `next` on are kept, in whatever order, and the others have had their instants. And what else is kept
-- is so for each solution of the system below `next`.
pub record Stands (m : State) (lines : List Line) : Type 0 where
  pub going : m.stop ≡ None
  pub events : AreGiven m.system lines
  pub kept : (l : Line) → Contains m.given l → Contains lines l
  pub open_lines : (l : Line) → Contains lines l → m.next ≤ l.time → Contains m.given l
  pub keeps : (z : Streams) → Solves m.system (inputs_of lines) m.next z → KeepsOf m lines z
