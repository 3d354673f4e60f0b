use Rattle.state_snapshot.proofs.Answered as answered
use Rattle.state_snapshot.proofs.laws.spell_one_state.Goals as goal

pub returns : goal.returns
returns c = answered.spell_one_state
