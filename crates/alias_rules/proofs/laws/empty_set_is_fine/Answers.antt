use Rattle.alias_rules.proofs.Empty.{empty_is_fine}
use Rattle.alias_rules.proofs.laws.empty_set_is_fine.Goals as goal

pub returns : goal.returns
returns c s proper outputs_run formed = empty_is_fine s proper outputs_run formed
