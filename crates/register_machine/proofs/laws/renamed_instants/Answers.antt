use Rattle.register_machine.proofs.Renamings.{instants_renamed}
use Rattle.register_machine.proofs.laws.renamed_instants.Goals as goal

pub returns : goal.returns
returns c = instants_renamed
