use Rattle.trace_bench.proofs.Endings.{one_ending}
use Rattle.trace_bench.proofs.laws.one_ending.Goals as goal

pub returns : goal.returns
returns c = one_ending
