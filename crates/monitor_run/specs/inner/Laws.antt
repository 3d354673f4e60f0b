-- The texts of the steps of a run, joined, are the due text, and the run ends as the solutions of the system say.
use Rattle.std.specs.Prelude.{◌≡◌, ℕ, List, ◌++◌, Ok, Err}
use Rattle.lift_func.specs.declared.fault.FaultKind.{FaultKind}
use Rattle.flat_core.specs.Case.{Streams}
use Rattle.flat_core.specs.Ending.{EndsInFault, EndsAtLimit, EndsAtBound}
use Rattle.flat_core.specs.Line.{Line, inputs_of}
use Rattle.flat_core.specs.Solution.{Solves}
use Rattle.flat_core.specs.Text.{due_text}
use Rattle.monitor_run.specs.declared.monitor.Step.TheVariants as step
use Rattle.monitor_run.specs.declared.monitor.Stop.TheVariants as stop
use Rattle.monitor_run.specs.inner.State.{State, IsReady}
use Rattle.monitor_run.specs.inner.Steps.{HasStepped}
use Rattle.monitor_run.specs.inner.Written.{HasWritten}

-- a step that ran goes on
abbrev pub StepsGoOn : Type 0
StepsGoOn =
    (old new : State) (lines : List Line) (text before added : List ℕ)
    → IsReady old
    → HasWritten old lines text
    → HasStepped old new lines before (before ++ added) (Ok step.Ran)
    → HasWritten new lines (text ++ added)

-- the text so far is the due text, and it ends at the bound, in a fault or at the limit
abbrev pub IdleEndsAtBound : Type 0
IdleEndsAtBound =
    (old new : State) (lines : List Line) (text before after : List ℕ)
    → IsReady old
    → HasWritten old lines text
    → HasStepped old new lines before after (Ok step.Idle)
    → (w : Streams)
    → Solves old.system (inputs_of lines) old.bound w
    → (text ≡ due_text old.system lines w old.bound old.limit) × EndsAtBound old.system lines w old.bound old.limit

abbrev pub FaultEndsInFault : Type 0
FaultEndsInFault =
    (old new : State) (lines : List Line) (text before after : List ℕ) (t i : ℕ) (kind : FaultKind)
    → IsReady old
    → HasWritten old lines text
    → HasStepped old new lines before after (Err (stop.Fault t i kind))
    → (w : Streams)
    → Solves old.system (inputs_of lines) old.bound w
    → (text ≡ due_text old.system lines w old.bound old.limit) × EndsInFault old.system lines w old.bound old.limit t i kind

abbrev pub LimitEndsAtLimit : Type 0
LimitEndsAtLimit =
    (old new : State) (lines : List Line) (text before after : List ℕ) (count t : ℕ)
    → IsReady old
    → HasWritten old lines text
    → HasStepped old new lines before after (Err (stop.Limit count t))
    → (w : Streams)
    → Solves old.system (inputs_of lines) old.bound w
    → (text ≡ due_text old.system lines w old.bound old.limit) × EndsAtLimit old.system lines w old.bound old.limit t
