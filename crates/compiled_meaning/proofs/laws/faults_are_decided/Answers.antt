use Rattle.compiled_meaning.proofs.Something.{faults_are_decided}
use Rattle.compiled_meaning.proofs.laws.faults_are_decided.Goals as goal

pub returns : goal.returns
returns c = faults_are_decided
