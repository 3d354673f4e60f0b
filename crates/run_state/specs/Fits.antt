-- Which states of a run a program can go on from. Each of these conditions can be decided.
use Rattle.std.specs.Prelude.{◌≡◌, ◌<◌, ◌≤◌, map, length, IsSome}
use Rattle.tsl_value.specs.declared.limits.TheConstants.{MOST_INSTANTS, MOST_TRACE_BYTES}
use Rattle.flat_core.specs.System.{System}
use Rattle.trace_reader.specs.inner.LastTime.{or_zero}
use Rattle.trace_reader.specs.inner.Saved.{FitsReader}
use Rattle.monitor_state.specs.Fits.{FitsMonitor}
use Rattle.run_state.specs.declared.state.RunState.{RunState}

-- the limits are those that a user can ask for
pub record AreLimits (st : RunState) : Type 0 where
  pub some_instants : 1 ≤ st.instants_limit
  pub few_instants : st.instants_limit ≤ MOST_INSTANTS
  pub some_bytes : 1 ≤ st.bytes_limit
  pub few_bytes : st.bytes_limit ≤ MOST_TRACE_BYTES

-- Reader and monitor stand at one time: the bound is the last time, or 0 where there is none. Events are open only where there is a last time,
-- and their inputs are those that had an event at it.
pub record AreTogether (st : RunState) : Type 0 where
  pub bound : st.monitor.bound ≡ or_zero st.reader.last
  pub open_later : 0 < length st.monitor.open_events → IsSome st.reader.last
  pub seen : st.reader.seen ≡ map (λ e. e.equation) st.monitor.open_events

-- the reader's state fits with so many bytes at most, the monitor's with so many instants, and both are of one run
pub record FitsRun (s : System) (st : RunState) : Type 0 where
  pub limits : AreLimits st
  pub reader : FitsReader st.bytes_limit st.reader
  pub monitor : FitsMonitor s st.instants_limit st.monitor
  pub together : AreTogether st
