use Rattle.flat_core.proofs.SameMeaning.{happens_alike, outputs_agree}
use Rattle.flat_core.proofs.laws.agreeing_streams_mean_the_same.Goals as goal

pub returns : goal.returns
returns c s lines bound z w proper outputs same = (happens_alike s bound z w proper same lines, outputs_agree s bound z w proper same outputs)
