use Rattle.checked_spec.proofs.Beginnings.{chain_begins}
use Rattle.checked_spec.proofs.flat_laws.chains_begin.Goals as goal

pub returns : goal.returns
returns c items top at st p l e front rest t h = chain_begins items top at st p l e front rest t h
