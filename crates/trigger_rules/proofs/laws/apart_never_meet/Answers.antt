use Rattle.trigger_rules.proofs.Times.{apart}
use Rattle.trigger_rules.proofs.laws.apart_never_meet.Goals as goal

pub returns : goal.returns
returns c = apart
