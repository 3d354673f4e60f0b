use Rattle.expr_types.proofs.BlockLemmas.{begun_turn, begun_end}
use Rattle.expr_types.proofs.block.Blocks.of_items.Goals as goal

pub loop-item-preserved : goal.loop-item-preserved
loop-item-preserved c =
    begun_turn c.args.items.now c.loop-item.item-index c.item-item.result c.loop-item.blocks.items c.push.new.self.items c.in_ok-block_of_item.field-0 c.loop-item-test.true c.item-item.is c.in_ok-block_of_item.ensures c.in_ok-push.ensures.items c.loop-item.invariant

pub returns : goal.returns
returns c = begun_end c.args.items.now c.loop-item.item-index c.loop-item.blocks.items c.loop-item-test.false c.loop-item.invariant
