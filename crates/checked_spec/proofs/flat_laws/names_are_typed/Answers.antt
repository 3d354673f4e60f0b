use Rattle.checked_spec.proofs.Inside.{name_typed}
use Rattle.checked_spec.proofs.flat_laws.names_are_typed.Goals as goal

pub returns : goal.returns
returns c items top at st p x d s m other is stands = name_typed items top at st p x d s m other is stands
