use Rattle.flat_meaning.proofs.FromLaws.{flat_text_is_due, the_laws}
use Rattle.flat_meaning.proofs.laws.flat_text_is_due.Goals as goal

pub returns : goal.returns
returns c = flat_text_is_due the_laws
