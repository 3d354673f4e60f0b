use Rattle.compiled_code.proofs.Bare.{bare_is_alike}
use Rattle.compiled_code.proofs.laws.bare_is_alike.Goals as goal

pub returns : goal.returns
returns c = bare_is_alike
