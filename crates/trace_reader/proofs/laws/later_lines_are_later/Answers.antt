use Rattle.trace_reader.proofs.LineLemmas.{reading_later}
use Rattle.trace_reader.proofs.laws.later_lines_are_later.Goals as goal

pub returns : goal.returns
returns c = reading_later
