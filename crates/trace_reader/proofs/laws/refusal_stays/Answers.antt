use Rattle.trace_reader.proofs.LawLemmas.{reading_refused}
use Rattle.trace_reader.proofs.laws.refusal_stays.Goals as goal

pub returns : goal.returns
returns c = reading_refused
