use Rattle.alias_rules.proofs.Sharing.{alias_turned}
use Rattle.alias_rules.proofs.laws.alias_turns.Goals as goal

pub returns : goal.returns
returns c s set r q h = alias_turned s set r q h
