use Rattle.register_machine.proofs.LaterRuns.{runs_on}
use Rattle.register_machine.proofs.laws.runs_go_on.Goals as goal

pub returns : goal.returns
returns c = runs_on
