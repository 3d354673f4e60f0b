use Rattle.compiled_code.proofs.Spelled.{compiled_code_has_a_spelling}
use Rattle.compiled_code.proofs.laws.compiled_code_has_a_spelling.Goals as goal

pub returns : goal.returns
returns c = compiled_code_has_a_spelling
