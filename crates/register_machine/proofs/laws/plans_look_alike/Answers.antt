use Rattle.register_machine.proofs.Shown.{alike}
use Rattle.register_machine.proofs.laws.plans_look_alike.Goals as goal

pub returns : goal.returns
returns c = alike
