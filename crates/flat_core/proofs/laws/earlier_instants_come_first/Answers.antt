use Rattle.flat_core.proofs.SmallerBound.{instants_first}
use Rattle.flat_core.proofs.laws.earlier_instants_come_first.Goals as goal

pub returns : goal.returns
returns c = instants_first
