use Rattle.alike_systems.proofs.Saying.{alike_either_way}
use Rattle.alike_systems.proofs.laws.alike_either_way.Goals as goal

pub returns : goal.returns
returns c = alike_either_way
