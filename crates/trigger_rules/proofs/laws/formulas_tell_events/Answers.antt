use Rattle.trigger_rules.proofs.Times.{exact}
use Rattle.trigger_rules.proofs.laws.formulas_tell_events.Goals as goal

pub returns : goal.returns
returns c = exact
