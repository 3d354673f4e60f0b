use Rattle.compiled_code.proofs.Inputs.{compiled_has_named_inputs}
use Rattle.compiled_code.proofs.laws.compiled_has_named_inputs.Goals as goal

pub returns : goal.returns
returns c = compiled_has_named_inputs
