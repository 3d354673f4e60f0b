use Rattle.state_snapshot.proofs.Alone as alone
use Rattle.state_snapshot.proofs.laws.none_begins_other.Goals as goal

pub returns : goal.returns
returns c = alone.none_begins_other
