-- What the calls of a monitor make of it.
use Rattle.std.specs.Prelude.{◌≡◌, ℕ, ◌+◌, ◌<◌, ◌≤◌, suc, List, ◌++◌, Some, None, Result, Ok, Err, IsTrue, slice_index}
use Rattle.lift_func.specs.declared.fault.FaultKind.{FaultKind}
use Rattle.tsl_value.specs.declared.scalar.Scalar.{Scalar}
use Rattle.flat_core.specs.Case.{Streams}
use Rattle.flat_core.specs.Complete.{IsShort}
use Rattle.flat_core.specs.Fault.{IsNamed}
use Rattle.flat_core.specs.Line.{Line, inputs_of}
use Rattle.flat_core.specs.Solution.{Solves}
use Rattle.flat_core.specs.Text.{text_at}
use Rattle.monitor_run.specs.declared.monitor.Step.{Step}
use Rattle.monitor_run.specs.declared.monitor.Step.TheVariants as step
use Rattle.monitor_run.specs.declared.monitor.Stop.{Stop}
use Rattle.monitor_run.specs.declared.monitor.Stop.TheVariants as stop
use Rattle.monitor_run.specs.inner.Begun.{IsBegunOf}
use Rattle.register_machine.specs.Copied.{copied}
use Rattle.register_machine.specs.Laws.{Reaches}
use Rattle.register_machine.specs.Machine.{Config}
use Rattle.register_machine.specs.Run.{Instant}
use Rattle.flat_core.specs.Updates.{is_running_update}
use Rattle.monitor_run.specs.inner.Given.{AreAt}
use Rattle.monitor_state.specs.Inputs.{IsInputOf}
use Rattle.monitor_run.specs.inner.Next.{IsFirstInstant, NoInstant}
use Rattle.monitor_run.specs.inner.Stands.{Stands}
use Rattle.monitor_run.specs.inner.State.{State, kept_state, plan_of}

-- An event may be given: its time is not closed, no event of another time is open, this input has none yet, and a text has at most 65,536
-- bytes.
pub record CanTake (m : State) (time i : ℕ) (value : Scalar) : Type 0 where
  pub unclosed : m.bound ≤ time
  pub alone : AreAt time m.given
  pub fresh : inputs_of m.given i time ≡ None
  pub fits : IsInputOf m.system i value
  pub short : IsShort value

-- the stop that was kept, again, and all is as it was
abbrev pub IsStoppedAgain : {A : Type 0} → State → State → Result A Stop → Type 0
IsStoppedAgain old new result = (kept : Stop) → old.stop ≡ Some kept → (result ≡ Err kept) × (new ≡ old)

-- a stop is kept, and nothing else has changed
abbrev pub stopped : State → Stop → State
stopped m at = record m { stop = Some at }

-- which system is run, how far, and within which limit
pub record AreAsSet (old new : State) : Type 0 where
  pub system : new.system ≡ old.system
  pub in_place : new.in_place ≡ old.in_place
  pub order : new.order ≡ old.order
  pub limit : new.limit ≡ old.limit
  pub bound : new.bound ≡ old.bound

-- t is the first instant of a solution that has not run
abbrev pub IsNextOf : State → List Line → Streams → ℕ → Type 0
IsNextOf m lines z t = IsFirstInstant m.system lines z m.next m.bound t

-- An instant has run: for each solution up to it, it is the first that had not, and its text was appended. What the monitor keeps has
-- become what an instant of the register machine makes of it, so that an update in place keeps its handle.
pub record HasRun (old new : State) (lines : List Line) (before after : List ℕ) : Type 0 where
  pub time : ℕ
  pub early : time < old.bound
  pub next_is : new.next ≡ suc time
  pub ran_is : new.ran ≡ old.ran + 1
  pub as_set : AreAsSet old new
  pub stands : Stands new lines
  pub instant : Instant old.system (plan_of old) (inputs_of lines) time (kept_state old) (kept_state new)
  pub each : (w : Streams)
      → Solves old.system (inputs_of lines) (suc time) w
      → IsNextOf old lines w time × (after ≡ before ++ text_at old.system w time)

-- none is left
abbrev pub NoneIsLeft : State → List Line → Type 0
NoneIsLeft m lines = (w : Streams) → Solves m.system (inputs_of lines) m.bound w → NoInstant m.system lines w m.next m.bound

-- The next instant has a root fault, and this one is named. Updates have copied what they copy up to that time, and the ledger is that
-- with which the register machine reaches the instant's last print.
pub record HasFaulted (old new : State) (lines : List Line) (t i : ℕ) (kind : FaultKind) : Type 0 where
  pub early : t < old.bound
  pub room : old.ran < old.limit
  pub each : (w : Streams)
      → Solves old.system (inputs_of lines) (suc t) w
      → IsNextOf old lines w t × IsNamed old.system (inputs_of lines) w t i kind
  pub reached : Config
  pub reaches : Reaches old.system (plan_of old) lines t (kept_state old) reached
  pub ledger_is : (u : ℕ) → slice_index new.ledger u ≡ reached.ledger u
  pub ledger : (w : Streams)
      → Solves old.system (inputs_of lines) (suc t) w
      → (u : ℕ)
      → IsTrue (is_running_update old.system u)
      → slice_index new.ledger u ≡ copied old.system old.in_place w u (suc t)

-- as many have run as may, and another is left
pub record IsAtLimit (old : State) (lines : List Line) (count t : ℕ) : Type 0 where
  pub early : t < old.bound
  pub full : old.ran ≡ old.limit
  pub count_is : count ≡ old.limit
  pub each : (w : Streams) → Solves old.system (inputs_of lines) (suc t) w → IsNextOf old lines w t

-- What was appended is the beginning of the text of the first instant that has not run.
pub record IsBegun (old : State) (lines : List Line) (before after : List ℕ) : Type 0 where
  pub time : ℕ
  pub early : time < old.bound
  pub room : old.ran < old.limit
  pub each : (w : Streams)
      → Solves old.system (inputs_of lines) (suc time) w
      → IsNextOf old lines w time × IsBegunOf before after (text_at old.system w time)

-- what a step answers
abbrev pub HasStepped : State → State → List Line → List ℕ → List ℕ → Result Step Stop → Type 0
HasStepped old new lines before after (Ok step.Ran) = HasRun old new lines before after
HasStepped old new lines before after (Ok step.Idle) = (new ≡ old) × (after ≡ before) × NoneIsLeft old lines
HasStepped old new lines before after (Err (stop.Fault t i kind)) = (after ≡ before) × HasFaulted old new lines t i kind
HasStepped old new lines before after (Err (stop.Limit count t)) =
    (after ≡ before) × (new ≡ stopped old (stop.Limit count t)) × IsAtLimit old lines count t
HasStepped old new lines before after (Err stop.Memory) = IsBegun old lines before after
