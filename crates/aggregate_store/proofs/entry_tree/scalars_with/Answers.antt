use Rattle.std.proofs.Common.{ap, ◌∙◌}
use Rattle.std.specs.FinMap as finite_map
use Rattle.tsl_value.specs.View.{Table}
use Rattle.aggregate_store.proofs.entry_tree.scalars_with.Goals as goal

pub returns : goal.returns
returns c = c.in_ok-add_entry.ensures.ok ∙ ap (λ (m : Table). finite_map.insert m c.args.key.now c.args.value.now) c.in_ok-scalars.ensures
