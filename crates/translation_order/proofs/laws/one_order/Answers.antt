use Rattle.translation_order.specs.Order.{Before}
use Rattle.translation_order.proofs.Orders.{one_order}
use Rattle.translation_order.proofs.laws.one_order.Goals as goal

pub returns : goal.returns
returns c steps pairs = one_order steps (Before pairs)
