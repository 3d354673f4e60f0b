use Rattle.source_rules.proofs.LawLemmas.{refused_spells_none}
use Rattle.source_rules.proofs.laws.refused_spells_none.Goals as goal

pub returns : goal.returns
returns c = refused_spells_none
