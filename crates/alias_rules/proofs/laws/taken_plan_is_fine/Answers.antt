use Rattle.alias_rules.proofs.TakenPlan.{taken_is_fine}
use Rattle.alias_rules.proofs.laws.taken_plan_is_fine.Goals as goal

pub returns : goal.returns
returns c s set order = taken_is_fine s set order
