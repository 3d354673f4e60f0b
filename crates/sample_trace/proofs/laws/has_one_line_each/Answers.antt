use Rattle.sample_trace.proofs.Cuts.{one_line_each}
use Rattle.sample_trace.proofs.laws.has_one_line_each.Goals as goal

pub returns : goal.returns
returns c = one_line_each
