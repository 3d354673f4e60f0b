use Rattle.register_code.proofs.PlanLaws.{one_plan_order}
use Rattle.register_code.proofs.laws.one_plan_order.Goals as goal

pub returns : goal.returns
returns c = one_plan_order
