use Rattle.compiled_meaning.proofs.Inputs.{inputs_are_declared}
use Rattle.compiled_meaning.proofs.laws.inputs_are_declared.Goals as goal

pub returns : goal.returns
returns c = inputs_are_declared
