use Rattle.flat_core.proofs.Alike.{one_named}
use Rattle.flat_core.proofs.laws.one_fault_is_named.Goals as goal

pub returns : goal.returns
returns c = one_named
