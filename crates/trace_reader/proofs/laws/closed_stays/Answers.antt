use Rattle.trace_reader.proofs.LineLemmas.{reading_closed}
use Rattle.trace_reader.proofs.laws.closed_stays.Goals as goal

pub returns : goal.returns
returns c = reading_closed
