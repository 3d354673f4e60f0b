use Rattle.register_machine.proofs.TidyRuns.{instants_tidy}
use Rattle.register_machine.proofs.laws.instants_keep_tidy.Goals as goal

pub returns : goal.returns
returns c = instants_tidy
