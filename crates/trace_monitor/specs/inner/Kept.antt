-- For which bytes of a trace a monitor stands.
use Rattle.std.specs.Prelude.{◌≡◌, ℕ, false, List, is_some, None}
use Rattle.std.specs.List.{filter}
use Rattle.flat_core.specs.Line.{Line, last_time}
use Rattle.monitor_run.specs.inner.Written.{HasWritten}
use Rattle.trace_reader.specs.Reading.{reading}
use Rattle.trace_reader.specs.inner.Reads.{Reads}
use Rattle.trace_monitor.specs.Due.{IsDue}
use Rattle.trace_monitor.specs.inner.State.{State}
use Rattle.trace_monitor.specs.inner.Waits.{Waits}

-- the lines that have an event
abbrev pub events_of : List Line → List Line
events_of lines = filter (λ l. is_some l.event) lines

-- The monitor stands for these bytes: its reader has given all lines that stand, none is refused, their events were given to the
-- engine, the times below the last line's are closed, and the text of the instants that ran is the one that is due.
pub record Kept (m : State) (fed : List ℕ) : Type 0 where
  pub lines : List Line
  pub text : List ℕ
  pub reads : Reads m.reader m.system m.options.strict m.options.bytes fed lines false
  pub waits : Waits m
  pub all : reading m.system m.options.strict m.options.bytes fed false ≡ record { lines = lines; refused = None }
  pub last_is : m.last ≡ last_time lines
  pub written : HasWritten m.engine (events_of lines) text
  pub due : IsDue m.system m.options fed false text
