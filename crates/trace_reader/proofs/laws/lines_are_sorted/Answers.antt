use Rattle.trace_reader.proofs.LineLemmas.{reading_sorted}
use Rattle.trace_reader.proofs.laws.lines_are_sorted.Goals as goal

pub returns : goal.returns
returns c = reading_sorted
