use Rattle.compiled_meaning.proofs.Kept.{one_is_compiled}
use Rattle.compiled_meaning.proofs.laws.one_is_compiled.Goals as goal

pub returns : goal.returns
returns c = one_is_compiled
