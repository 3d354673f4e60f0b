use Rattle.alias_rules.specs.Conflict.{StandsBefore}
use Rattle.alias_rules.proofs.TakenPlan.{one_order_by}
use Rattle.alias_rules.proofs.laws.one_least_order.Goals as goal

pub returns : goal.returns
returns c s set xs ys = one_order_by s (StandsBefore s set) xs ys
