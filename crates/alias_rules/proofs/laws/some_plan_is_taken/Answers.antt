use Rattle.alias_rules.proofs.Existing.{some_plan}
use Rattle.alias_rules.proofs.laws.some_plan_is_taken.Goals as goal

pub returns : goal.returns
returns c s proper outputs_run formed none = some_plan s proper outputs_run formed none
