use Rattle.compiled_meaning.proofs.Inputs.{inputs_stand_at_their_numbers}
use Rattle.compiled_meaning.proofs.laws.inputs_stand_at_their_numbers.Goals as goal

pub returns : goal.returns
returns c = inputs_stand_at_their_numbers
