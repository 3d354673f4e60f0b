use Rattle.code_file.proofs.Whole as whole
use Rattle.code_file.proofs.laws.spell_one_code.Goals as goal

pub returns : goal.returns
returns c = whole.spell_one_code
