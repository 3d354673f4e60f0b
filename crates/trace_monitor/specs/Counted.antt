-- What the engine has counted where a run ends.
use Rattle.std.specs.Prelude.{◌≡◌, ℕ, suc, Bool, List, length, IsTrue, slice_index}
use Rattle.flat_core.specs.Instant.{instants}
use Rattle.flat_core.specs.Case.{Streams}
use Rattle.flat_core.specs.System.{System}
use Rattle.register_machine.specs.Copied.{copied}
use Rattle.flat_core.specs.Updates.{is_running_update}
use Rattle.monitor_run.specs.inner.State as engine
use Rattle.trace_monitor.specs.declared.ending.RunEnding.{RunEnding}
use Rattle.trace_monitor.specs.declared.ending.RunEnding.TheVariants as ending
use Rattle.trace_monitor.specs.declared.options.Options.{Options}
use Rattle.trace_monitor.specs.Due.{SolvesClosed, bound_in, lines_in}

-- As many instants have run as this number says. Where a run ends with a fault, nothing is said: the instant of the fault is begun and
-- does not end, and what the engine's counter has then is not known.
abbrev pub AreRan : RunEnding → ℕ → ℕ → Type 0
AreRan (ending.Fault time kind place) ran number = Unit {0}
AreRan _ ran number = ran ≡ number

module _ (s : System) (o : Options) (bytes : List ℕ) (ended : Bool) where
  -- the instants below this have run where a run ends so; that of a fault is not among them
  abbrev pub run_below : RunEnding → ℕ
  run_below ending.Done = bound_in s o bytes ended
  run_below (ending.Trace fault) = bound_in s o bytes ended
  run_below (ending.Fault time kind place) = time
  run_below (ending.Limit count time) = time

  -- updates have copied what they copy below this; at the instant of a fault they have as well
  abbrev pub copied_below : RunEnding → ℕ
  copied_below ending.Done = bound_in s o bytes ended
  copied_below (ending.Trace fault) = bound_in s o bytes ended
  copied_below (ending.Fault time kind place) = suc time
  copied_below (ending.Limit count time) = time

  -- What the engine has counted where a run ends so, for all streams that solve the system at the closed times: the instants that have run,
  -- and what each running update has copied.
  pub record HasCounted (e : engine.State) (how : RunEnding) : Type 0 where
    pub ran : (z : Streams)
        → SolvesClosed s o bytes ended z
        → AreRan how e.ran (length (instants s (lines_in s o bytes ended) z (run_below how)))
    pub ledger : (z : Streams)
        → SolvesClosed s o bytes ended z
        → (u : ℕ)
        → IsTrue (is_running_update s u)
        → slice_index e.ledger u ≡ copied s e.in_place z u (copied_below how)
