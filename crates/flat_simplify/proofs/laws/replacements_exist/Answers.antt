use Rattle.flat_simplify.proofs.Exists.{replacements}
use Rattle.flat_simplify.proofs.laws.replacements_exist.Goals as goal

pub returns : goal.returns
returns c = replacements
