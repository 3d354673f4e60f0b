use Rattle.translation_order.specs.Order.{Before}
use Rattle.translation_order.proofs.Cycles.{walked_cycle}
use Rattle.translation_order.proofs.laws.cycle_of_walk_is_cycle.Goals as goal

pub returns : goal.returns
returns c steps pairs = walked_cycle steps (Before pairs)
