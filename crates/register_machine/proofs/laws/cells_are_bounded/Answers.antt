use Rattle.register_machine.proofs.Shown.{bounded}
use Rattle.register_machine.proofs.laws.cells_are_bounded.Goals as goal

pub returns : goal.returns
returns c = bounded
