use Rattle.alias_rules.proofs.Listed.{one_listed}
use Rattle.alias_rules.proofs.laws.one_listed_set.Goals as goal

pub returns : goal.returns
returns c s set other a b = one_listed s set other a b
