use Rattle.translation_order.proofs.Marks.{marked_at}
use Rattle.translation_order.proofs.search.mark.Goals as goal

pub loop-node-preserved : goal.loop-node-preserved
loop-node-preserved c =
    marked_at c.args.nodes.now c.loop-node.node-index c.args.on_cycle c.args.visits.now c.loop-node.visits c.loop-node-test.true (c.requires c.loop-node.node-index 0 c.loop-node-test.true) c.loop-node.invariant
