use Rattle.spec_lexer.proofs.SourceLaws as lemmas
use Rattle.spec_lexer.proofs.laws.fault_excludes_tokens.Goals as goal

pub returns : goal.returns
returns c = lemmas.tokens_or_fault
