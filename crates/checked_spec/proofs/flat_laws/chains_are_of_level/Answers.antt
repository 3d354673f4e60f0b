use Rattle.checked_spec.proofs.Beginnings.{chain_of_level}
use Rattle.checked_spec.proofs.flat_laws.chains_are_of_level.Goals as goal

pub returns : goal.returns
returns c items top at st p l e o f ls t h = chain_of_level items top at st p l e o f ls t h
