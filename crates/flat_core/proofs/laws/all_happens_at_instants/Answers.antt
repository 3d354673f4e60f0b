use Rattle.flat_core.proofs.WellFormedRank.{rank_of, well_formed_ranked}
use Rattle.flat_core.proofs.Silence.{happens_at_instants}
use Rattle.flat_core.proofs.laws.all_happens_at_instants.Goals as goal

pub returns : goal.returns
returns c s lines bound z proper typed formed solves = happens_at_instants s lines z bound proper typed (rank_of s formed) (well_formed_ranked s formed) solves
