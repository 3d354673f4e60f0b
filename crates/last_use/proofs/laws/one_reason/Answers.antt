use Rattle.last_use.proofs.Reasoning.{one_reason}
use Rattle.last_use.proofs.laws.one_reason.Goals as goal

pub returns : goal.returns
returns c s set = one_reason s set
