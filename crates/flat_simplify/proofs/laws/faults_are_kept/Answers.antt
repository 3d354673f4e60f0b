use Rattle.flat_simplify.proofs.Faults.{keeps_faults}
use Rattle.flat_simplify.proofs.laws.faults_are_kept.Goals as goal

pub returns : goal.returns
returns c = keeps_faults
