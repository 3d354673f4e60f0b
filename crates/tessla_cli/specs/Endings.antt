-- The endings of the program that are those of a run over a trace.
use Rattle.std.specs.Prelude.{◌≡◌}
use Rattle.trace_monitor.specs.declared.ending.RunEnding.{RunEnding}
use Rattle.trace_monitor.specs.declared.ending.RunEnding.TheVariants as run
use Rattle.tessla_cli.specs.declared.ending.Ending.{Ending}
use Rattle.tessla_cli.specs.declared.ending.Ending.TheVariants as ending

-- the ending of the program where a run over a trace ends so
abbrev pub ending_of : RunEnding → Ending
ending_of run.Done = ending.Done
ending_of (run.Trace fault) = ending.Trace fault
ending_of (run.Fault time kind place) = ending.Fault time kind place
ending_of (run.Limit count time) = ending.Limit count time

-- A fact about the ending of a run over a trace by which the program ends so.
pub record OfEnding (by : Ending) (P : RunEnding → Type 0) : Type 0 where
  pub how : RunEnding
  pub by_is : by ≡ ending_of how
  pub holds : P how
