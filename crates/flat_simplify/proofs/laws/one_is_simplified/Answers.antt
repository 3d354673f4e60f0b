use Rattle.flat_simplify.proofs.One.{one_simplified}
use Rattle.flat_simplify.proofs.laws.one_is_simplified.Goals as goal

pub returns : goal.returns
returns c = one_simplified
