use Rattle.flat_meaning.proofs.LawLemmas.{one_system}
use Rattle.flat_meaning.proofs.one_flat.one_system.Goals as goal

pub returns : goal.returns
returns c = one_system
