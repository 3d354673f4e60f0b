use Rattle.last_use.proofs.Reasoning.{none_where_fine}
use Rattle.last_use.proofs.laws.fine_set_has_no_reason.Goals as goal

pub returns : goal.returns
returns c s set r fine = none_where_fine s set fine r
