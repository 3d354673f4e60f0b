use Rattle.alike_systems.proofs.Reading.{alike_read_alike}
use Rattle.alike_systems.proofs.laws.alike_read_alike.Goals as goal

pub returns : goal.returns
returns c = alike_read_alike
