-- What a caller sees of a monitor of a trace.
use Rattle.std.specs.Prelude.{ℕ}
use Rattle.flat_core.specs.System.{System}
use Rattle.monitor_run.specs.inner.State as engine
use Rattle.trace_reader.specs.inner.Reader.{Reader}
use Rattle.trace_monitor.specs.declared.options.Options.{Options}

pub record State : Type 0 where
  pub system : System
  pub options : Options
  pub reader : Reader
  -- the time of the last line
  pub last : ℕ
  pub engine : engine.State
