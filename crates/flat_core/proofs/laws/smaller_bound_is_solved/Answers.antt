use Rattle.flat_core.proofs.SmallerBound.{solves_less}
use Rattle.flat_core.proofs.laws.smaller_bound_is_solved.Goals as goal

pub returns : goal.returns
returns c = solves_less
