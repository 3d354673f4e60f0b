use Rattle.std.proofs.Common.{refl, sym, ◌∙◌, ap}
use Rattle.flat_core.specs.System.{System}
use Rattle.trace_run.specs.Statistics.{counted_text}
use Rattle.trace_run.proofs.run.ran_of.Goals as goal

pub statistics_of-requires : goal.statistics_of-requires
statistics_of-requires c = c.requires.engine ∙ sym c.flat.ensures.flat

pub returns : goal.returns
returns c = record {
  ending = refl;
  state = c.in_ok-state.ensures;
  statistics = c.in_ok-statistics.ensures ∙ ap (λ (t : System). counted_text t c.args.monitor.now.engine c.args.with_statistics) c.flat.ensures.flat;
}
