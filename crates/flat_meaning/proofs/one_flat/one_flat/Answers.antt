use Rattle.flat_meaning.proofs.LawLemmas.{one_flat}
use Rattle.flat_meaning.proofs.one_flat.one_flat.Goals as goal

pub returns : goal.returns
returns c = one_flat
