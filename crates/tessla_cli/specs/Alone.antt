-- What `bench` writes, and how it ends where there is no tally.
use Rattle.std.specs.Prelude.{◌≡◌, ◌⊎◌, List, ℕ}
use Rattle.command_words.specs.declared.command.Workload.{Workload}
use Rattle.compiled_meaning.specs.Compiled.{IsRefusedBy}
use Rattle.source_rules.specs.declared.fault.SpecFault.{SpecFault}
use Rattle.trace_bench.specs.Bench.{IsBenched, source_of}
use Rattle.trace_bench.specs.declared.outcome.Outcome.TheVariants as outcome
use Rattle.trace_bench.specs.declared.tally.Tally.{Tally}
use Rattle.trace_bench.specs.Text.{tally_text}
use Rattle.trace_monitor.specs.declared.ending.RunEnding.{RunEnding}
use Rattle.tessla_cli.specs.declared.ending.Ending.{Ending}
use Rattle.tessla_cli.specs.declared.ending.Ending.TheVariants as ending
use Rattle.tessla_cli.specs.Endings.{ending_of}

-- the text is a tally of a run of the specification of a kind over the sample trace with so many lines
abbrev pub IsTallyText : Workload → ℕ → List ℕ → Type 0
IsTallyText kind n text = (tally : Tally) × IsBenched (source_of kind) n (outcome.Whole tally) × (text ≡ tally_text tally)

-- the ending where there is none: that specification is refused, or the run ends before the end of the trace
abbrev pub BenchStops : Workload → ℕ → Ending → Type 0
BenchStops kind n by =
    ((fault : SpecFault) × IsRefusedBy (source_of kind) fault × (by ≡ ending.Spec fault))
    ⊎ ((how : RunEnding) × IsBenched (source_of kind) n (outcome.Stopped how) × (by ≡ ending_of how))
