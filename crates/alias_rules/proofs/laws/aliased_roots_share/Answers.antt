use Rattle.alias_rules.proofs.Sharing.{aliased_share}
use Rattle.alias_rules.proofs.laws.aliased_roots_share.Goals as goal

pub returns : goal.returns
returns c s set r q v w = aliased_share s set r q v w
