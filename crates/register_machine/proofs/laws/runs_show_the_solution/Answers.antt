use Rattle.register_machine.proofs.Shown.{shows}
use Rattle.register_machine.proofs.laws.runs_show_the_solution.Goals as goal

pub returns : goal.returns
returns c = shows
