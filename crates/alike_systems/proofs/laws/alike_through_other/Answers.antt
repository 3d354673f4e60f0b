use Rattle.alike_systems.proofs.Saying.{alike_through_other}
use Rattle.alike_systems.proofs.laws.alike_through_other.Goals as goal

pub returns : goal.returns
returns c = alike_through_other
