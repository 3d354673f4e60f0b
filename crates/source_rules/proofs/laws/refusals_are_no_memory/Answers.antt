use Rattle.source_rules.proofs.LawLemmas.{refusals_are_no_memory}
use Rattle.source_rules.proofs.laws.refusals_are_no_memory.Goals as goal

pub returns : goal.returns
returns c = refusals_are_no_memory
