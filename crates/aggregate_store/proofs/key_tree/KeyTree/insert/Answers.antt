use Rattle.std.proofs.Common.{sym, ap, ◌∙◌}
use Rattle.std.specs.FinSet as set
use Rattle.tsl_value.specs.inner.ScalarOrder.{scalar_cmp_total}
use Rattle.tsl_value.proofs.ScalarOrder.{scalar_cmp-IsAntisymmetric}
use Rattle.aggregate_store.specs.declared.key_tree.KeyTree.{KeyTree}
use Rattle.aggregate_store.specs.inner.Keys.{set_of}
use Rattle.aggregate_store.proofs.FiniteMaps.{set-insert}
use Rattle.aggregate_store.proofs.key_tree.KeyTree.insert.Goals as goal

pub returns-in_ok-insert-in-Scalars-clause-ok : goal.returns-in_ok-insert-in-Scalars-clause-ok
returns-in_ok-insert-in-Scalars-clause-ok c =
    let s = c.in-Scalars.scalars in
    set-insert scalar_cmp_total scalar_cmp-IsAntisymmetric s.keys c.insert.new.self.keys c.args.key c.in_ok-insert-in-Scalars.ensures.updates.0
    ∙ sym (ap (λ (tree : KeyTree). set.insert (set_of tree) c.args.key) c.in-Scalars.is)
