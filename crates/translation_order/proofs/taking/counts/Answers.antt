use Rattle.std.proofs.Common.{arith}
use Rattle.translation_order.proofs.Counts.{waits_at, waits_fit}
use Rattle.translation_order.proofs.taking.counts.Goals as goal

pub overflow_add-index_mut : goal.overflow_add-index_mut
overflow_add-index_mut c =
    let fit = waits_fit c.args.steps c.args.pairs.now c.loop-second.second-index c.loop-second.waits.items c.index_mut.result.now c.requires c.loop-second-test.true c.loop-second.invariant c.index_mut.ensures.value in
    omega arith

pub loop-second-preserved : goal.loop-second-preserved
loop-second-preserved c =
    waits_at c.args.steps c.args.pairs.now c.loop-second.second-index c.loop-second.waits.items c.index_mut.result.now c.requires c.loop-second-test.true c.loop-second.invariant c.index_mut.ensures.value
