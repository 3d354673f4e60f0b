use Rattle.translation_order.specs.Order.{Before}
use Rattle.translation_order.proofs.Cycles.{one_cycle}
use Rattle.translation_order.proofs.laws.one_cycle.Goals as goal

pub returns : goal.returns
returns c steps pairs = one_cycle steps (Before pairs)
