-- What comes of a run over the sample trace.
use Rattle.std.specs.Prelude.{ℕ, List}
use Rattle.flat_core.specs.System.{System}
use Rattle.trace_bench.specs.declared.outcome.Outcome.{Outcome}
use Rattle.trace_bench.specs.declared.outcome.Outcome.TheVariants as outcome
use Rattle.trace_bench.specs.Measured.{IsStopped, IsTallied}

-- of the system that is run, of which the updates of a set happen in place, and a trace with so many lines
abbrev pub IsOutcomeOf : System → List ℕ → ℕ → Outcome → Type 0
IsOutcomeOf s set count (outcome.Whole tally) = IsTallied s set count tally
IsOutcomeOf s set count (outcome.Stopped how) = IsStopped s count how
