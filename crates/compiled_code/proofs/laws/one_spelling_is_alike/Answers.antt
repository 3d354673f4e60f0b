use Rattle.compiled_code.proofs.OneSpelling.{one_spelling_is_alike}
use Rattle.compiled_code.proofs.laws.one_spelling_is_alike.Goals as goal

pub returns : goal.returns
returns c = one_spelling_is_alike
