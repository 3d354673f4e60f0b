-- The state of a run after some bytes of its trace, and its bytes.
use Rattle.std.specs.Prelude.{◌≡◌, ℕ, false, List}
use Rattle.register_code.specs.Code.{Code}
use Rattle.register_machine.specs.Run.{Plan}
use Rattle.trace_reader.specs.inner.Saved.{IsReaderAfter}
use Rattle.monitor_run.specs.inner.Resumed.{IsStateAfter}
use Rattle.run_state.specs.Fits.{FitsRun}
use Rattle.run_state.specs.Spelling.{spelling}
use Rattle.run_state.specs.declared.state.RunState.{RunState}
use Rattle.trace_monitor.specs.declared.options.Options.{Options}
use Rattle.trace_monitor.specs.Due.{bound_in, lines_in}
use Rattle.trace_monitor.specs.Ending.{GoesOn}
use Rattle.trace_monitor.specs.inner.Kept.{events_of}

-- the options of a run are those of its state; up to which time a run closes at the end of its trace is no part of one
pub record AreOptionsOf (o : Options) (st : RunState) : Type 0 where
  pub strict : st.strict ≡ o.strict
  pub instants : st.instants_limit ≡ o.instants
  pub bytes : st.bytes_limit ≡ o.bytes

-- the plan of code
abbrev pub plan_in : Code → Plan
plan_in c = record { in_place = c.in_place; order = c.order }

-- This is the state after these bytes, from which the trace goes on: no line of them is refused, no fault is closed, and the limit of
-- instants is not passed. It is that of the reader after the bytes, and that of the engine after the events of their lines, with the times
-- below the last line's closed.
pub record IsRunAfter (c : Code) (o : Options) (bytes : List ℕ) (st : RunState) : Type 0 where
  pub goes_on : GoesOn c.system o bytes
  pub options : AreOptionsOf o st
  pub reader : IsReaderAfter c.system o.strict o.bytes bytes (lines_in c.system o bytes false) st.reader
  pub bound : st.monitor.bound ≡ bound_in c.system o bytes false
  pub monitor : IsStateAfter c.system (plan_in c) (events_of (lines_in c.system o bytes false)) st.monitor

-- These bytes are the saved state of a run after earlier ones: they spell the state after these, which fits.
pub record IsSavedAs (c : Code) (o : Options) (earlier bytes : List ℕ) : Type 0 where
  pub state : RunState
  pub after : IsRunAfter c o earlier state
  pub fits : FitsRun c.system state
  pub is : bytes ≡ spelling c state

-- the bytes spell a state that fits a code
pub record SpellsState (c : Code) (bytes : List ℕ) : Type 0 where
  pub state : RunState
  pub fits : FitsRun c.system state
  pub is : bytes ≡ spelling c state
