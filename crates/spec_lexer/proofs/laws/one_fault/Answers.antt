use Rattle.spec_lexer.proofs.SourceLaws as lemmas
use Rattle.spec_lexer.proofs.laws.one_fault.Goals as goal

pub returns : goal.returns
returns c = lemmas.one_refusal
