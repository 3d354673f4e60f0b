-- What comes of a specification that is run over the sample trace.
use Rattle.std.specs.Prelude.{ℕ, List}
use Rattle.command_words.specs.declared.command.Workload.{Workload}
use Rattle.command_words.specs.declared.command.Workload.TheVariants as kind
use Rattle.alias_rules.specs.Fine.{IsTakenPlan}
use Rattle.flat_core.specs.System.{System}
use Rattle.sample_trace.specs.Source.{copy_source, seen_source}
use Rattle.compiled_meaning.specs.Compiled.{CompilesSomething}
use Rattle.trace_bench.specs.declared.outcome.Outcome.{Outcome}
use Rattle.trace_bench.specs.Outcome.{IsOutcomeOf}

-- the specification of a kind
abbrev pub source_of : Workload → List ℕ
source_of kind.Seen = seen_source
source_of kind.Copy = copy_source

-- This comes of the system that is run for the source by the plan that is taken, over the trace with so many lines.
pub record IsBenched (source : List ℕ) (count : ℕ) (outcome : Outcome) : Type 0 where
  pub system : System
  pub compiles : CompilesSomething source system
  pub set : List ℕ
  pub order : List ℕ
  pub taken : IsTakenPlan system set order
  pub is : IsOutcomeOf system set count outcome
