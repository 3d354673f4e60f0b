use Rattle.register_machine.proofs.Renamings.{runs_renamed}
use Rattle.register_machine.proofs.laws.renamed_runs.Goals as goal

pub returns : goal.returns
returns c = runs_renamed
