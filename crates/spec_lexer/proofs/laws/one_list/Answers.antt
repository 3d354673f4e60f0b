use Rattle.spec_lexer.proofs.SourceLaws as lemmas
use Rattle.spec_lexer.proofs.laws.one_list.Goals as goal

pub returns : goal.returns
returns c = lemmas.one_list
