use Rattle.flat_simplify.proofs.Stands.{one_stands}
use Rattle.flat_simplify.proofs.laws.one_stands_for_each.Goals as goal

pub returns : goal.returns
returns c s i j k first second = one_stands s first second
