use Rattle.std.proofs.Common.{sym, ap, ◌∙◌}
use Rattle.std.specs.FinMap as finite_map
use Rattle.tsl_value.specs.inner.ScalarOrder.{scalar_cmp_total}
use Rattle.tsl_value.proofs.ScalarOrder.{scalar_cmp-IsAntisymmetric}
use Rattle.aggregate_store.specs.declared.entry_tree.EntryTree.{EntryTree}
use Rattle.aggregate_store.specs.inner.Entries.{table_of}
use Rattle.aggregate_store.proofs.FiniteMaps.{table-remove}
use Rattle.aggregate_store.proofs.entry_tree.EntryTree.remove.Goals as goal

pub returns-in-Scalars : goal.returns-in-Scalars
returns-in-Scalars c =
    table-remove scalar_cmp_total scalar_cmp-IsAntisymmetric c.in-Scalars.scalars.entries c.remove.new.self.entries c.args.key.now c.remove.ensures.updates.0
    ∙ sym (ap (λ (tree : EntryTree). finite_map.remove (table_of tree) c.args.key.now) c.in-Scalars.is)
