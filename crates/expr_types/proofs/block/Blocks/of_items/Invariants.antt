use Rattle.expr_types.proofs.BlockLemmas.{AreBegun}
use Rattle.expr_types.proofs.block.Blocks.of_items.Given as goal

abbrev pub invariant-loop-item : goal.invariant-loop-item
invariant-loop-item l = AreBegun l.items l.item-index l.blocks.items
