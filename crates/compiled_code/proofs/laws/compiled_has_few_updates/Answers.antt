use Rattle.compiled_code.proofs.Updates.{compiled_has_few_updates}
use Rattle.compiled_code.proofs.laws.compiled_has_few_updates.Goals as goal

pub returns : goal.returns
returns c = compiled_has_few_updates
