use Rattle.trace_reader.proofs.LineLemmas.{reading_distinct}
use Rattle.trace_reader.proofs.laws.events_are_distinct.Goals as goal

pub returns : goal.returns
returns c = reading_distinct
