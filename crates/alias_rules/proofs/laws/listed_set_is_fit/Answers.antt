use Rattle.alias_rules.proofs.Empty.{empty_is_fine}
use Rattle.alias_rules.proofs.Listed.{listed_fits}
use Rattle.alias_rules.proofs.laws.listed_set_is_fit.Goals as goal

pub returns : goal.returns
returns c s set proper outputs_run formed listed = listed_fits s set (empty_is_fine s proper outputs_run formed) listed
