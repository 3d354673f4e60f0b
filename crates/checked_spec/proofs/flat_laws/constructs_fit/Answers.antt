use Rattle.checked_spec.proofs.Whole.{construct_fits}
use Rattle.checked_spec.proofs.flat_laws.constructs_fit.Goals as goal

pub returns : goal.returns
returns c items top at st e t sh parts n h is own theirs other = construct_fits items top at st e t sh parts n h is own theirs other
