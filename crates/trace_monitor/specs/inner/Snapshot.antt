-- The state that a monitor keeps.
use Rattle.register_code.specs.Code.{Code}
use Rattle.trace_reader.specs.inner.Saved as reader
use Rattle.monitor_run.specs.inner.Saved as engine
use Rattle.run_state.specs.declared.state.RunState.{RunState}
use Rattle.trace_monitor.specs.Saved.{AreOptionsOf}
use Rattle.trace_monitor.specs.inner.State.{State}

-- the code that a monitor runs
abbrev pub code_of : State → Code
code_of m = record { system = m.system; in_place = m.engine.in_place; order = m.engine.order }

-- it is what reader and engine keep, with the options
pub record HasRunState (m : State) (st : RunState) : Type 0 where
  pub options : AreOptionsOf m.options st
  pub reader : reader.HasState m.reader st.reader
  pub monitor : engine.HasState m.engine st.monitor
