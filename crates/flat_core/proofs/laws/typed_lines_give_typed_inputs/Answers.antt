use Rattle.flat_core.proofs.TypedEvents.{inputs_typed}
use Rattle.flat_core.proofs.laws.typed_lines_give_typed_inputs.Goals as goal

pub returns : goal.returns
returns c = inputs_typed
