use Rattle.std.proofs.Common.{ap, ◌∙◌, arith}
use Rattle.flat_core.specs.Updates.{is_running_update}
use Rattle.state_snapshot.proofs.Counted.{counted_more, few_counted, one_at_most}
use Rattle.state_snapshot.proofs.monitor.count_updates.Goals as goal

pub overflow_add-count : goal.overflow_add-count
overflow_add-count c = omega (
  arith,
  few_counted (is_running_update c.args.flat.now) c.loop-number.number c.loop-number.count c.loop-number.invariant,
  c.loop-number-test.true,
  c.count-number-end.ensures.count,
  c.count-number-end.ensures.is_flat.few_equations,
  c.one_if-count.ensures,
  one_at_most c.is_running_update.result,
)

pub loop-number-preserved : goal.loop-number-preserved
loop-number-preserved c = counted_more (is_running_update c.args.flat.now) c.loop-number.number c.loop-number.count c.loop-number.invariant c.is_running_update.result c.one_if-count.result (c.is_running_update.ensures ∙ ap (is_running_update c.args.flat.now) c.new.ensures) c.one_if-count.ensures
