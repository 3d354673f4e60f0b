use Rattle.compiled_code.proofs.Named.{compiled_has_short_names}
use Rattle.compiled_code.proofs.laws.compiled_has_short_names.Goals as goal

pub returns : goal.returns
returns c = compiled_has_short_names
