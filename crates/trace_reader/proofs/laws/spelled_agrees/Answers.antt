use Rattle.trace_reader.proofs.SpellingLemmas.{spelled_agrees}
use Rattle.trace_reader.proofs.laws.spelled_agrees.Goals as goal

pub returns : goal.returns
returns c = spelled_agrees
