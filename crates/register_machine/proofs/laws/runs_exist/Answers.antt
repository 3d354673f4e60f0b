use Rattle.register_machine.proofs.Shown.{exists}
use Rattle.register_machine.proofs.laws.runs_exist.Goals as goal

pub returns : goal.returns
returns c = exists
