use Rattle.checked_spec.proofs.Whole.{choice_fits}
use Rattle.checked_spec.proofs.flat_laws.choices_fit.Goals as goal

pub returns : goal.returns
returns c items top at st e t sh parts h is theirs chosen = choice_fits items top at st e t sh parts h is theirs chosen
