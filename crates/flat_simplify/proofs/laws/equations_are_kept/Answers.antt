use Rattle.flat_simplify.proofs.Kept.{equations_kept}
use Rattle.flat_simplify.proofs.laws.equations_are_kept.Goals as goal

pub returns : goal.returns
returns c = equations_kept
