use Rattle.spec_lexer.proofs.SomeAnswer as lemmas
use Rattle.spec_lexer.proofs.laws.some_answer.Goals as goal

pub returns : goal.returns
returns c = lemmas.some_answer
