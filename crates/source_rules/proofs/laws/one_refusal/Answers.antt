use Rattle.source_rules.proofs.LawLemmas.{one_refusal}
use Rattle.source_rules.proofs.laws.one_refusal.Goals as goal

pub returns : goal.returns
returns c = one_refusal
