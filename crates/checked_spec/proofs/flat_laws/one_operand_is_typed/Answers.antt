use Rattle.checked_spec.proofs.Beginnings.{one_operand}
use Rattle.checked_spec.proofs.flat_laws.one_operand_is_typed.Goals as goal

pub returns : goal.returns
returns c items top at st p l e t h = one_operand items top at st p l e t h
