use Rattle.alike_systems.proofs.Saying.{alike_have_one_solution}
use Rattle.alike_systems.proofs.laws.alike_have_one_solution.Goals as goal

pub returns : goal.returns
returns c = alike_have_one_solution
