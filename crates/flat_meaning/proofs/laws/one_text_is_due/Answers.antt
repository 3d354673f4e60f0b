use Rattle.flat_meaning.proofs.OneText.{one_text}
use Rattle.flat_meaning.proofs.laws.one_text_is_due.Goals as goal

pub returns : goal.returns
returns c items lines bound limit xs ys here there = one_text items lines bound limit xs ys here there
