use Rattle.std.proofs.Common.{sym, ◌∙◌}
use Rattle.flat_core.specs.System.{runs}
use Rattle.tessla_cli.proofs.Counting.{counted_with, counted_without}
use Rattle.tessla_cli.proofs.print.count_running.Goals as goal
use Rattle.tessla_cli.proofs.print.count_running.Goals.{then-runs, else-runs}

pub loop-number-preserved : goal.loop-number-preserved
loop-number-preserved c = elim c.if-runs.branch [
  | then-runs w ↦ counted_with (runs c.args.flat.now) c.loop-number.number c.new.result c.loop-number.count c.if-runs.count c.new.ensures (sym c.runs.ensures ∙ w.if-runs.true) w.count-is c.loop-number.invariant
  | else-runs w ↦ counted_without (runs c.args.flat.now) c.loop-number.number c.new.result c.loop-number.count c.if-runs.count c.new.ensures (sym c.runs.ensures ∙ w.if-runs.false) w.count-is c.loop-number.invariant
]
