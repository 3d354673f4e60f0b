use Rattle.flat_simplify.proofs.Fit.{simplified_fit}
use Rattle.flat_simplify.proofs.laws.simplified_is_fit.Goals as goal

pub returns : goal.returns
returns c = simplified_fit
