use Rattle.register_code.proofs.PlanLaws.{least_steps_first}
use Rattle.register_code.proofs.laws.least_steps_come_first.Goals as goal

pub returns : goal.returns
returns c = least_steps_first
