use Rattle.std.proofs.Common.{refl}
use Rattle.syntax_tree.specs.inner.OneLevel.{definitions_of}
use Rattle.expr_types.specs.inner.Blocks.{numbered}
use Rattle.expr_types.proofs.BlockLemmas.{numbered_turn}
use Rattle.expr_types.proofs.block.numbered.Goals as goal

pub loop-definition-preserved : goal.loop-definition-preserved
loop-definition-preserved c =
    numbered_turn c.args.definitions.now c.loop-definition.definition-index c.definition-item.result _ c.parts.result.now c.count_in.result c.loop-definition.all.items c.push.new.self.items c.leave_out.new.all.items (numbered (definitions_of c.args.definitions.now)) c.loop-definition-test.true c.definition-item.is refl c.parts.ensures.is c.count_in.ensures c.in_ok-push.ensures.items c.in_ok-leave_out.ensures c.loop-definition.invariant
