use Rattle.compiled_meaning.proofs.Meaning.{compiled_says_what_is_meant}
use Rattle.compiled_meaning.proofs.laws.compiled_says_what_is_meant.Goals as goal

pub returns : goal.returns
returns c = compiled_says_what_is_meant
