use Rattle.trace_bench.proofs.Compiling.{refused_benches_none}
use Rattle.trace_bench.proofs.laws.refused_benches_none.Goals as goal

pub returns : goal.returns
returns c = refused_benches_none
