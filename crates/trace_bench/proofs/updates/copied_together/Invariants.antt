use Rattle.std.proofs.Common.{◌≡◌}
use Rattle.std.specs.Prelude.{slice_index}
use Rattle.trace_bench.specs.Ran.{up_to_most}
use Rattle.trace_bench.proofs.Sums.{sum_below}
use Rattle.trace_bench.proofs.updates.copied_together.Given as goal

abbrev pub invariant-loop-number : goal.invariant-loop-number
invariant-loop-number l = l.sum ≡ up_to_most (sum_below l.flat (λ u. slice_index l.monitor.engine.ledger u) l.number)
