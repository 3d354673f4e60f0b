use Rattle.std.proofs.Common.{arith}
use Rattle.step_uses.proofs.RowLemmas.{few_places}
use Rattle.step_uses.proofs.uses.step_uses.Goals as goal

pub overflow_cast-place : goal.overflow_cast-place
overflow_cast-place c = omega (arith, few_places c.args.order.now c.requires c.type_inv.order, c.loop-place-test.true)
