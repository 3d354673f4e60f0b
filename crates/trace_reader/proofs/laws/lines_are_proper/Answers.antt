use Rattle.trace_reader.proofs.LineLemmas.{reading_proper}
use Rattle.trace_reader.proofs.laws.lines_are_proper.Goals as goal

pub returns : goal.returns
returns c = reading_proper
