use Rattle.alike_systems.proofs.Saying.{alike_say_the_same}
use Rattle.alike_systems.proofs.laws.alike_say_the_same.Goals as goal

pub returns : goal.returns
returns c = alike_say_the_same
