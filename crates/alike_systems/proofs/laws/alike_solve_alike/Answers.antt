use Rattle.alike_systems.proofs.Saying.{alike_solve_alike}
use Rattle.alike_systems.proofs.laws.alike_solve_alike.Goals as goal

pub returns : goal.returns
returns c = alike_solve_alike
