use Rattle.checked_spec.proofs.Beginnings.{chain_operands}
use Rattle.checked_spec.proofs.flat_laws.operands_of_chains.Goals as goal

pub returns : goal.returns
returns c items top at st p l e o f ls t h = chain_operands items top at st p l e o f ls t h
