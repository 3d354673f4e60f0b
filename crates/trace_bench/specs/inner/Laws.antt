-- Laws of the bench.
use Rattle.std.specs.Prelude.{ℕ, List}
use Rattle.compiled_meaning.specs.Compiled.{IsRefusedBy}
use Rattle.source_rules.specs.declared.fault.SpecFault.{SpecFault}
use Rattle.trace_bench.specs.Bench.{IsBenched}
use Rattle.trace_bench.specs.declared.outcome.Outcome.{Outcome}
use Rattle.trace_bench.specs.declared.outcome.Outcome.TheVariants as outcome
use Rattle.trace_monitor.specs.declared.ending.RunEnding.{RunEnding}
use Rattle.trace_monitor.specs.declared.ending.RunEnding.TheVariants as ending

-- endings of one kind
abbrev pub AreOfOneKind : RunEnding → RunEnding → Type 0
AreOfOneKind ending.Done ending.Done = Unit {0}
AreOfOneKind (ending.Trace fault) (ending.Trace other) = Unit {0}
AreOfOneKind (ending.Fault time kind place) (ending.Fault other_time other_kind other_place) = Unit {0}
AreOfOneKind (ending.Limit count time) (ending.Limit other_count other_time) = Unit {0}
AreOfOneKind _ _ = ⊥

-- the whole trace in both, or stopped by endings of one kind
abbrev pub EndsAlike : Outcome → Outcome → Type 0
EndsAlike (outcome.Whole tally) (outcome.Whole other) = Unit {0}
EndsAlike (outcome.Stopped how) (outcome.Stopped other) = AreOfOneKind how other
EndsAlike _ _ = ⊥

-- What comes of a source over the trace with so many lines ends in one way.
abbrev pub OneEnding : Type 0
OneEnding =
    (source : List ℕ) (count : ℕ) (a b : Outcome)
    → IsBenched source count a
    → IsBenched source count b
    → EndsAlike a b

-- Of a source that is refused nothing comes.
abbrev pub RefusedBenchesNone : Type 0
RefusedBenchesNone =
    (source : List ℕ) (fault : SpecFault) (count : ℕ) (a : Outcome)
    → IsRefusedBy source fault
    → ¬ (IsBenched source count a)
