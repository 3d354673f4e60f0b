use Rattle.alias_rules.proofs.Sharing.{both_stored}
use Rattle.alias_rules.proofs.laws.sharing_is_of_stored.Goals as goal

pub returns : goal.returns
returns c s set v w h = both_stored s set v w h
