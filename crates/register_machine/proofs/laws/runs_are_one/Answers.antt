use Rattle.register_machine.proofs.OneRun.{one_run}
use Rattle.register_machine.proofs.laws.runs_are_one.Goals as goal

pub returns : goal.returns
returns c = one_run
