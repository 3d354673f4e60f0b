use Rattle.alias_rules.proofs.Around.{none_bypassed}
use Rattle.alias_rules.proofs.laws.none_bypasses_itself.Goals as goal

pub returns : goal.returns
returns c s set y inside b = none_bypassed s set y inside b
