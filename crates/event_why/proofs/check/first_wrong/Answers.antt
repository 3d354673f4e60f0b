use Rattle.std.proofs.Common.{rules, arith}
use Rattle.std.specs.Prelude.{IsTrue}
use Rattle.flat_core.specs.Line.{inputs_of}
use Rattle.event_why.proofs.CheckLemmas.{right_more}
use Rattle.event_why.proofs.check.first_wrong.Goals as goal

pub loop-step-preserved : goal.loop-step-preserved
loop-step-preserved c k low =
    let s = c.args.grounds.now.flat.now in
    let slice = c.args.grounds.now.slice.now in
    let p = inputs_of c.args.grounds.now.lines.now in
    let yes : IsTrue c.in_ok-right.right = search rules in
    right_more s slice p c.args.steps.now c.loop-step.step c.loop-step.invariant (c.in_ok-right.ensures.0 yes) k (omega (arith, low))
