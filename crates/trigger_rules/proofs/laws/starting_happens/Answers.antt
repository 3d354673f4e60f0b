use Rattle.trigger_rules.proofs.Times.{starting}
use Rattle.trigger_rules.proofs.laws.starting_happens.Goals as goal

pub returns : goal.returns
returns c = starting
