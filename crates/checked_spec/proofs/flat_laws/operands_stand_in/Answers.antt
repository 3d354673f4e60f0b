use Rattle.checked_spec.proofs.Within.{operand_in}
use Rattle.checked_spec.proofs.flat_laws.operands_stand_in.Goals as goal

pub returns : goal.returns
returns c p l e ls f h = operand_in p l e ls f h
