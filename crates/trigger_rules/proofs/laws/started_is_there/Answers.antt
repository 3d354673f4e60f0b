use Rattle.trigger_rules.proofs.Times.{last_there}
use Rattle.trigger_rules.proofs.laws.started_is_there.Goals as goal

pub returns : goal.returns
returns c = last_there
