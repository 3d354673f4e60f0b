use Rattle.translation_order.proofs.Successors.{successors_at}
use Rattle.call_limits.proofs.depth.successors.Goals as goal

pub loop-from-preserved : goal.loop-from-preserved
loop-from-preserved c =
    successors_at c.args.count c.args.edges.now c.loop-from.from-index c.loop-from.successors.items c.index_mut-of_from.result.now c.push.new.self c.requires c.loop-from-test.true c.loop-from.invariant c.index_mut-of_from.ensures.value c.in_ok-push.ensures
