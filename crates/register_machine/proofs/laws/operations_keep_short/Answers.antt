use Rattle.register_machine.proofs.ShortValues.{at_once_short}
use Rattle.register_machine.proofs.laws.operations_keep_short.Goals as goal

pub returns : goal.returns
returns c = at_once_short
