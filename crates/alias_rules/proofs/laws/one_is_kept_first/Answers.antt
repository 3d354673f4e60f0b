use Rattle.alias_rules.specs.Conflict.{IsKept}
use Rattle.alias_rules.proofs.Firsts.{one_first}
use Rattle.alias_rules.proofs.laws.one_is_kept_first.Goals as goal

pub returns : goal.returns
returns c s set y x z w a b = one_first set (IsKept s set) y x z w a b
