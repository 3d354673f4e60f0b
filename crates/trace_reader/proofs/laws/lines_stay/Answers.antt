use Rattle.trace_reader.proofs.LawLemmas.{reading_begins}
use Rattle.trace_reader.proofs.laws.lines_stay.Goals as goal

pub returns : goal.returns
returns c = reading_begins
