use Rattle.expr_types.proofs.BlockLemmas.{left_out}
use Rattle.expr_types.proofs.block.leave_out.Goals as goal

pub loop-preserved : goal.loop-preserved
loop-preserved c = left_out c.args.all.now.items c.loop.all.items c.push.new.self.items c.loop.counter c.loop.invariant c.in_ok-push.ensures.items
