use Rattle.alias_rules.specs.Conflict.{IsNotOverwritten}
use Rattle.alias_rules.proofs.Firsts.{one_first}
use Rattle.alias_rules.proofs.laws.one_is_not_overwritten_first.Goals as goal

pub returns : goal.returns
returns c s set y x z w a b = one_first set (IsNotOverwritten s set) y x z w a.first b.first
