use Rattle.register_machine.proofs.Shown.{goes_on}
use Rattle.register_machine.proofs.laws.sound_instants_go_on.Goals as goal

pub returns : goal.returns
returns c = goes_on
