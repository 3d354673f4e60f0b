use Rattle.std.proofs.Common.{sym, ap, ◌∙◌}
use Rattle.std.specs.FinSet as set
use Rattle.tsl_value.specs.inner.ScalarOrder.{scalar_cmp_total}
use Rattle.tsl_value.proofs.ScalarOrder.{scalar_cmp-IsAntisymmetric}
use Rattle.aggregate_store.specs.declared.key_tree.KeyTree.{KeyTree}
use Rattle.aggregate_store.specs.inner.Keys.{set_of}
use Rattle.aggregate_store.proofs.FiniteMaps.{set-remove}
use Rattle.aggregate_store.proofs.key_tree.KeyTree.remove.Goals as goal

pub returns-in-Scalars : goal.returns-in-Scalars
returns-in-Scalars c =
    let s = c.in-Scalars.scalars in
    set-remove scalar_cmp_total scalar_cmp-IsAntisymmetric s.keys c.remove.new.self.keys c.args.key.now c.remove.ensures.updates.0
    ∙ sym (ap (λ (tree : KeyTree). set.remove (set_of tree) c.args.key.now) c.in-Scalars.is)
