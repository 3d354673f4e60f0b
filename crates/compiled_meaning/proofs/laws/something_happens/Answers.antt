use Rattle.compiled_meaning.proofs.Something.{something_happens}
use Rattle.compiled_meaning.proofs.laws.something_happens.Goals as goal

pub returns : goal.returns
returns c = something_happens
