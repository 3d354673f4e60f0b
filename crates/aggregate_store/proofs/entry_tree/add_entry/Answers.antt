use Rattle.std.proofs.Common.{◌∙◌}
use Rattle.std.specs.FinMap as finite_map
use Rattle.tsl_value.specs.inner.ScalarOrder.{scalar_cmp_total}
use Rattle.tsl_value.proofs.ScalarOrder.{scalar_cmp-IsAntisymmetric}
use Rattle.aggregate_store.specs.inner.Entries.{table_of_scalars}
use Rattle.aggregate_store.proofs.FiniteMaps.{table-insert}
use Rattle.aggregate_store.proofs.entry_tree.add_entry.Goals as goal

pub returns-clause-ok : goal.returns-clause-ok
returns-clause-ok c =
    table-insert
    scalar_cmp_total scalar_cmp-IsAntisymmetric c.args.scalars.now.entries c.insert.new.self.entries c.in_ok-copy.field-0 c.in_ok-copy-2.field-0 c.in_ok-insert.ensures.updates.0
    ∙ (λ k. finite_map.insert (table_of_scalars c.args.scalars.now) (c.in_ok-copy.ensures.equal k) (c.in_ok-copy-2.ensures.equal k))
