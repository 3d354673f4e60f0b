use Rattle.checked_spec.proofs.Whole.{parts_typed}
use Rattle.checked_spec.proofs.flat_laws.parts_are_typed.Goals as goal

pub returns : goal.returns
returns c items top at st e t sh h is own = parts_typed items top at st e t sh h is own
