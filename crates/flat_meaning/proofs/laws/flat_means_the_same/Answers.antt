use Rattle.flat_meaning.proofs.FromLaws.{flat_means_the_same, the_laws}
use Rattle.flat_meaning.proofs.laws.flat_means_the_same.Goals as goal

pub returns : goal.returns
returns c = flat_means_the_same the_laws
