use Rattle.flat_core.proofs.TypedEvents.{events_typed}
use Rattle.flat_core.proofs.WellFormedRank.{rank_of, well_formed_ranked}
use Rattle.flat_core.proofs.laws.typed_inputs_give_typed_events.Goals as goal

pub returns : goal.returns
returns c = λ s inputs bound z proper typed good given solves. events_typed s inputs bound z proper typed (rank_of s good) (well_formed_ranked s good) given solves
