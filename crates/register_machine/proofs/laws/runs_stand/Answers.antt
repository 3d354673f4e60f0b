use Rattle.register_machine.proofs.Shown.{stands}
use Rattle.register_machine.proofs.laws.runs_stand.Goals as goal

pub returns : goal.returns
returns c = stands
