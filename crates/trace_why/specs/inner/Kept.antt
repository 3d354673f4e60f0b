-- For which bytes of a trace a question stands that is not answered yet.
use Rattle.std.specs.Prelude.{◌≡◌, ℕ, ◌<◌, false, List, length}
use Rattle.flat_core.specs.WellFormed.{IsWellFormed}
use Rattle.trace_monitor.specs.inner.Kept as run
use Rattle.trace_reader.specs.inner.Reader.{AwaitsMore}
use Rattle.trace_reader.specs.inner.Reads.{Reads}
use Rattle.trace_why.specs.inner.State.{State}

-- The monitor stands for these bytes: its run and its reader do, all lines that stand are kept, and there is what is asked for.
pub record Kept (m : State) (fed : List ℕ) : Type 0 where
  pub well_formed : IsWellFormed m.system
  pub there : m.question.output < length m.system.outputs
  pub system_is : m.run.system ≡ m.system
  pub options_are : m.run.options ≡ m.options
  pub run : run.Kept m.run fed
  pub reads : Reads m.reader m.system m.options.strict m.options.bytes fed m.lines false
  pub awaits : AwaitsMore m.reader
