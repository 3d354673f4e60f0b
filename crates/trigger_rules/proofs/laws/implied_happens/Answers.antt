use Rattle.trigger_rules.proofs.Times.{implied}
use Rattle.trigger_rules.proofs.laws.implied_happens.Goals as goal

pub returns : goal.returns
returns c = implied
