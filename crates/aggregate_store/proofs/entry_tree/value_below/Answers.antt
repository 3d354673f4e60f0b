use Rattle.std.proofs.Common.{sym, ◌∙◌}
use Rattle.tsl_value.specs.inner.ScalarOrder.{scalar_cmp_total}
use Rattle.lift_func.proofs.FiniteMaps.{get-of_entries}
use Rattle.aggregate_store.proofs.entry_tree.value_below.Goals as goal

pub returns : goal.returns
returns c = c.get.ensures.value ∙ sym (get-of_entries scalar_cmp_total c.args.scalars.now.entries c.args.key.now)
