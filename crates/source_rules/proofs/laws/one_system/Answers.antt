use Rattle.source_rules.proofs.LawLemmas.{one_system}
use Rattle.source_rules.proofs.laws.one_system.Goals as goal

pub returns : goal.returns
returns c = one_system
