use Rattle.register_machine.proofs.ShortRuns.{instants_keep}
use Rattle.register_machine.proofs.laws.instants_keep_short.Goals as goal

pub returns : goal.returns
returns c = instants_keep
