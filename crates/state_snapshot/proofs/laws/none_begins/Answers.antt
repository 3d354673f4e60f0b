use Rattle.state_snapshot.proofs.Answered as answered
use Rattle.state_snapshot.proofs.laws.none_begins.Goals as goal

pub returns : goal.returns
returns c = answered.none_begins
