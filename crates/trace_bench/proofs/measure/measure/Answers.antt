use Rattle.std.proofs.Common.{ap, subst, ◌∙◌}
use Rattle.std.specs.Prelude.{slice_index}
use Rattle.flat_core.specs.System.{System}
use Rattle.trace_bench.specs.Measured.{options}
use Rattle.trace_bench.specs.Ran.{HasRanOver, up_to_most, updates_sum}
use Rattle.trace_bench.proofs.Pieces.{ran_as}
use Rattle.trace_bench.proofs.Tallied.{tallied}
use Rattle.trace_monitor.specs.declared.ending.RunEnding.{RunEnding}
use Rattle.trace_bench.proofs.measure.measure.Goals as goal

pub returns-in-Done : goal.returns-in-Done
returns-in-Done c =
    let s = c.args.code.now.system in
    let m = c.in_ok-monitor.monitor in
    let e = c.run_over.new.monitor.engine in
    let ran = ran_as m.system s m.options options c.in_ok-monitor.ensures.system c.in_ok-monitor.ensures.options e c.args.lines c.in_ok-ending.ending c.in_ok-ending.bytes c.in_ok-ending.ensures.ran in
    let whole = subst (λ (how : RunEnding). HasRanOver s options e c.args.lines how c.in_ok-ending.bytes) c.in-Done.is ran in
    tallied s c.args.code.now.in_place c.args.lines e (c.in_ok-ending.ensures.set ∙ c.in_ok-monitor.ensures.in_place) c.in_ok-ending.bytes whole c.instants.result c.copied_together.result c.instants.ensures.ran (c.copied_together.ensures ∙ ap (λ (t : System). up_to_most (updates_sum t (λ u. slice_index e.ledger u))) c.flat.ensures.flat)

pub returns : goal.returns
returns c =
    let s = c.args.code.now.system in
    let m = c.in_ok-monitor.monitor in
    let ran = ran_as m.system s m.options options c.in_ok-monitor.ensures.system c.in_ok-monitor.ensures.options c.run_over.new.monitor.engine c.args.lines c.in_ok-ending.ending c.in_ok-ending.bytes c.in_ok-ending.ensures.ran in record {
      early = c.in_default.not-Done;
      front = ran.front;
      rest = ran.rest;
      is = ran.is;
      ended = ran.ended;
      ended_is = ran.ended_is;
      cause = ran.cause;
    }
