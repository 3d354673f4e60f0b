use Rattle.checked_spec.proofs.Inside.{call_typed}
use Rattle.checked_spec.proofs.flat_laws.calls_are_typed.Goals as goal

pub returns : goal.returns
returns c items top at st p x es t i b params locals h none is body theirs are_locals = call_typed items top at st p x es t i b params locals h none is body theirs are_locals
