use Rattle.flat_core.proofs.MarkLemmas.{numbers_more}
use Rattle.flat_core.proofs.reach.Marks.mark_outputs.Goals as goal

pub loop-output-preserved : goal.loop-output-preserved
loop-output-preserved c =
    numbers_more (λ o. o.equation) c.args.outputs.now c.loop-output.output-index c.args.self.now c.loop-output.self c.mark.new.self c.output-item.result c.loop-output-test.true c.output-item.is c.loop-output.invariant c.in_ok-mark.ensures
