-- No update that is listed in place copies an element or changes a register that is still read.
use Rattle.std.specs.Prelude.{◌≡◌, ℕ, ◌<◌, ◌≤◌, List, IsFalse, IsTrue}
use Rattle.flat_core.specs.Case.{Streams}
use Rattle.flat_core.specs.Fault.{is_faulty}
use Rattle.flat_core.specs.Line.{Line, inputs_of}
use Rattle.flat_core.specs.Members.{is_in}
use Rattle.flat_core.specs.System.{System}
use Rattle.register_code.specs.Code.{Code}
use Rattle.register_machine.specs.Laws.{GoesOn, LeavesWhatIsRead, Reaches, RunsOn, ShowsInstant}
use Rattle.register_machine.specs.Machine.{Config}
use Rattle.register_machine.specs.Run.{Plan, State}
use Rattle.register_machine.specs.Stands.{RunsTo}
use Rattle.trace_run.specs.Program.{IsCodeOf, Program, system_of}

-- Of the runs of the register machine by a plan over the instants of lines below a bound: there is one up to each time before which no root
-- fault comes. From each state to which one has come the machine is not stuck at the time that follows: it reaches the last print, that of
-- a fault's instant included, and without a root fault it ends with a state to which a run has come. At each instant each update in place
-- leaves what is still read, and what is printed and the root faults are those of the streams. And what happens in place has copied
-- nothing.
pub record RunsUnseen (s : System) (plan : Plan) (lines : List Line) (bound : ℕ) (z : Streams) : Type 0 where
  pub exist :
      (t : ℕ) →
      t ≤ bound →
      ((u : ℕ) → u < t → IsFalse (is_faulty s (inputs_of lines) z u)) →
      (a : State) × RunsTo s plan lines z t a
  pub go_on : (t : ℕ) → t < bound → (a : State) → RunsTo s plan lines z t a → GoesOn s plan lines z t a
  pub run_on : (t : ℕ) → t < bound → (a : State) → RunsTo s plan lines z t a → RunsOn s plan lines z t a
  pub leave : (t : ℕ) → t < bound → (a : State) → RunsTo s plan lines z t a → LeavesWhatIsRead s plan lines t a
  pub show : (t : ℕ) → t < bound → (a : State) → RunsTo s plan lines z t a → ShowsInstant s plan lines z t a
  pub copy_none : (t : ℕ) → t ≤ bound → (a : State) → RunsTo s plan lines z t a
      → (u : ℕ) → IsTrue (is_in plan.in_place u) → a.ledger u ≡ 0
  pub copy_none_within : (t : ℕ) → t < bound → (a : State) → RunsTo s plan lines z t a
      → (c : Config) → Reaches s plan lines t a c
      → (u : ℕ) → IsTrue (is_in plan.in_place u) → c.ledger u ≡ 0

-- the plan of code
abbrev pub plan_of : Code → Plan
plan_of c = record { in_place = c.in_place; order = c.order }

-- So it is by the code of a program. Of a specification that is the one by the plan that is taken, with the listed set and its order, which
-- `code` prints. It can't be that there is none, and two are one.
pub record UpdatesUnseen (p : Program) (lines : List Line) (bound : ℕ) (z : Streams) : Type 0 where
  pub some_code : ((c : Code) → IsCodeOf p c → ⊥) → ⊥
  pub one_code : (c d : Code) → IsCodeOf p c → IsCodeOf p d → c ≡ d
  pub each : (c : Code) → IsCodeOf p c → RunsUnseen (system_of p) (plan_of c) lines bound z
