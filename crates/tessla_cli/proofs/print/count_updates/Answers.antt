use Rattle.std.proofs.Common.{sym, ◌∙◌}
use Rattle.flat_core.specs.Updates.{is_running_update}
use Rattle.tessla_cli.proofs.Counting.{counted_with, counted_without}
use Rattle.tessla_cli.proofs.print.count_updates.Goals as goal
use Rattle.tessla_cli.proofs.print.count_updates.Goals.{then-is_running_update, else-is_running_update}

pub loop-number-preserved : goal.loop-number-preserved
loop-number-preserved c = elim c.if-is_running_update.branch [
  | then-is_running_update w ↦ counted_with (is_running_update c.args.flat.now) c.loop-number.number c.new.result c.loop-number.count c.if-is_running_update.count c.new.ensures (sym c.is_running_update.ensures ∙ w.if-is_running_update.true) w.count-is c.loop-number.invariant
  | else-is_running_update w ↦ counted_without (is_running_update c.args.flat.now) c.loop-number.number c.new.result c.loop-number.count c.if-is_running_update.count c.new.ensures (sym c.is_running_update.ensures ∙ w.if-is_running_update.false) w.count-is c.loop-number.invariant
]
