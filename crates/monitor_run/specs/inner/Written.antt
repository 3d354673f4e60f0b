-- What was written of a run.
use Rattle.std.specs.Prelude.{◌≡◌, ℕ, List}
use Rattle.std.specs.List.{flat_map}
use Rattle.flat_core.specs.Case.{Streams}
use Rattle.flat_core.specs.Instant.{instants}
use Rattle.flat_core.specs.Line.{Line, inputs_of}
use Rattle.flat_core.specs.Solution.{Solves}
use Rattle.flat_core.specs.Text.{text_at}
use Rattle.monitor_run.specs.inner.Stands.{Stands}
use Rattle.monitor_run.specs.inner.State.{State}

-- a monitor stands for some events, and the text is that of all instants that have run
pub record HasWritten (m : State) (lines : List Line) (text : List ℕ) : Type 0 where
  pub stands : Stands m lines
  pub text_is : (z : Streams)
      → Solves m.system (inputs_of lines) m.next z
      → text ≡ flat_map (text_at m.system z) (instants m.system lines z m.next)
