-- What is measured.
use Rattle.std.specs.Prelude.{◌≡◌, ◌≢◌, ℕ, Bool, true, false, List, [], ◌++◌, length}
use Rattle.flat_core.specs.Case.{Streams}
use Rattle.flat_core.specs.Instant.{instants}
use Rattle.flat_core.specs.System.{System}
use Rattle.register_machine.specs.Copied.{copied}
use Rattle.sample_trace.specs.Trace.{trace_text}
use Rattle.trace_bench.specs.Ran.{up_to_most, updates_sum}
use Rattle.trace_bench.specs.declared.tally.Tally.{Tally}
use Rattle.trace_monitor.specs.declared.ending.RunEnding.{RunEnding}
use Rattle.trace_monitor.specs.declared.ending.RunEnding.TheVariants as ending
use Rattle.trace_monitor.specs.declared.options.Options.{Options}
use Rattle.trace_monitor.specs.Due.{IsDue, SolvesClosed, bound_in, lines_in}
use Rattle.trace_monitor.specs.Next.{EndsBy}
use Rattle.tsl_value.specs.declared.limits.TheConstants.{MOST_INSTANTS, MOST_TRACE_BYTES}

-- no time is closed after the trace's end, and the limits are the largest
abbrev pub options : Options
options = record { until = 0; instants = MOST_INSTANTS; bytes = MOST_TRACE_BYTES; strict = false }

-- The tally of a system, of which the updates of a set happen in place, over the whole trace with so many lines, by which no line is
-- refused, no fault is closed, and the limit of instants is not passed: the lines, the instants, the bytes of the text that is due, and
-- what all running updates have copied together.
pub record IsTallied (s : System) (set : List ℕ) (count : ℕ) (tally : Tally) : Type 0 where
  pub cause : EndsBy s options (trace_text count) true ending.Done
  pub events_are : tally.events ≡ count
  pub instants_are : (z : Streams) → SolvesClosed s options (trace_text count) true z
      → tally.instants ≡ length (instants s (lines_in s options (trace_text count) true) z (bound_in s options (trace_text count) true))
  pub text : List ℕ
  pub due : IsDue s options (trace_text count) true text
  pub bytes_are : tally.bytes ≡ up_to_most (length text)
  pub copied_are : (z : Streams) → SolvesClosed s options (trace_text count) true z
      → tally.copied ≡ up_to_most (updates_sum s (λ u. copied s set z u (bound_in s options (trace_text count) true)))

-- The run of a system over the trace ends before that, after a front of the trace.
pub record IsStopped (s : System) (count : ℕ) (how : RunEnding) : Type 0 where
  pub early : how ≢ ending.Done
  pub front : List ℕ
  pub rest : List ℕ
  pub is : trace_text count ≡ front ++ rest
  pub ended : Bool
  pub ended_is : ended ≡ true → rest ≡ []
  pub cause : EndsBy s options front ended how
