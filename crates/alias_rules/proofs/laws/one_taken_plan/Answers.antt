use Rattle.alias_rules.proofs.TakenPlan.{one_plan}
use Rattle.alias_rules.proofs.laws.one_taken_plan.Goals as goal

pub returns : goal.returns
returns c s set order other others = one_plan s set order other others
