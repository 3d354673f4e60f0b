use Rattle.compiled_meaning.proofs.Readiness.{compiled_is_ready}
use Rattle.compiled_meaning.proofs.laws.compiled_is_ready.Goals as goal

pub returns : goal.returns
returns c = compiled_is_ready
