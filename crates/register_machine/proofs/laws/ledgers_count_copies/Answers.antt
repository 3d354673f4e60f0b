use Rattle.register_machine.proofs.Shown.{counts}
use Rattle.register_machine.proofs.laws.ledgers_count_copies.Goals as goal

pub returns : goal.returns
returns c = counts
