use Rattle.flat_simplify.proofs.Text.{keeps_text}
use Rattle.flat_simplify.proofs.laws.text_is_kept.Goals as goal

pub returns : goal.returns
returns c = keeps_text
