-- What is told and left of a run, and what it did, whether it ended or was cut short.
use Rattle.std.specs.Prelude.{◌≡◌, ℕ, Bool, List, Result, Ok, Err}
use Rattle.register_code.specs.Code.{Code}
use Rattle.trace_monitor.specs.declared.ending.RunEnding.{RunEnding}
use Rattle.trace_monitor.specs.inner.State.{State}
use Rattle.tsl_world.specs.declared.broken.Broken.{Broken}
use Rattle.tsl_world.specs.declared.outside.Did.{Did}
use Rattle.trace_run.specs.Effects.{CodeEnds, IsStateOf, LeavesSome, RunsCode}
use Rattle.trace_run.specs.Statistics.{counted_text}
use Rattle.trace_run.specs.declared.run.Ran.{Ran}
use Rattle.trace_run.specs.declared.start.Start.{Start}

-- of a run that ended so with this monitor
pub record IsToldOf (c : Code) (m : State) (saves asked : Bool) (how : RunEnding) (ran : Ran) : Type 0 where
  pub ending : ran.ending ≡ how
  pub state : LeavesSome (IsStateOf c m) saves how ran.state
  pub statistics : ran.statistics ≡ counted_text c.system m.engine asked

abbrev pub ComesTo : List ℕ → Code → Start → Bool → Bool → Result Ran Broken → List Did → Type 0
ComesTo trace c start saves statistics (Ok ran) part = CodeEnds trace c start saves statistics ran part
ComesTo trace c start saves statistics (Err broken) part = RunsCode trace c start saves part
