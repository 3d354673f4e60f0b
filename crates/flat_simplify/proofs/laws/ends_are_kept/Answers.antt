use Rattle.flat_simplify.proofs.Ends.{keeps_ends}
use Rattle.flat_simplify.proofs.laws.ends_are_kept.Goals as goal

pub returns : goal.returns
returns c = keeps_ends
