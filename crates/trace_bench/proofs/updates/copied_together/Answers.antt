use Rattle.std.proofs.Common.{sym, ap, ◌∙◌, ◌+◌, ◌-◌, ◌^◌, min}
use Rattle.std.specs.Prelude.{slice_index}
use Rattle.trace_bench.proofs.Sums.{sum_with, sum_without}
use Rattle.trace_bench.proofs.updates.copied_together.Goals as goal
use Rattle.trace_bench.proofs.updates.copied_together.Goals.{then-is_running_update, else-is_running_update}

pub loop-number-preserved : goal.loop-number-preserved
loop-number-preserved c =
    let flat = c.args.flat.now in
    let ledger = c.args.monitor.now.engine.ledger in
    elim c.if-is_running_update.branch [
      | then-is_running_update w ↦
          sum_with flat (λ u. slice_index ledger u) c.loop-number.number c.new-update.result c.loop-number.sum c.if-is_running_update.sum c.new-update.ensures (sym c.is_running_update.ensures ∙ w.if-is_running_update.true)
          (w.sum-is ∙ w.saturating_add-sum.ensures ∙ ap (λ n. min (c.loop-number.sum + n) (2 ^ 64 - 1)) w.copied.ensures) c.loop-number.invariant
      | else-is_running_update w ↦
          sum_without flat (λ u. slice_index ledger u) c.loop-number.number c.new-update.result c.loop-number.sum c.if-is_running_update.sum c.new-update.ensures (sym c.is_running_update.ensures ∙ w.if-is_running_update.false) w.sum-is c.loop-number.invariant
    ]
