use Rattle.flat_simplify.proofs.Stands.{stand_in}
use Rattle.flat_simplify.proofs.laws.stand_ins_fit.Goals as goal

pub returns : goal.returns
returns c = stand_in
