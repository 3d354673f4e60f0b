-- How far a run may go.
use Rattle.std.specs.Prelude.{◌<◌, ◌≤◌, ◌^◌}
use Rattle.trace_monitor.specs.declared.options.Options.{Options}
use Rattle.tsl_value.specs.declared.limits.TheConstants.{MOST_INSTANTS, MOST_TRACE_BYTES}

-- what holds of the options of each run that is asked for
pub record AreLimited (o : Options) : Type 0 where
  pub until : o.until < 2 ^ 63
  pub some_instants : 1 ≤ o.instants
  pub few_instants : o.instants ≤ MOST_INSTANTS
  pub some_bytes : 1 ≤ o.bytes
  pub few_bytes : o.bytes ≤ MOST_TRACE_BYTES
