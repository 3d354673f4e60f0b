use Rattle.std.proofs.Common.{sym, ap, ◌∙◌}
use Rattle.std.specs.FinSet as set
use Rattle.tsl_value.specs.inner.ScalarOrder.{scalar_cmp_total}
use Rattle.aggregate_store.specs.declared.key_tree.KeyTree.{KeyTree}
use Rattle.aggregate_store.specs.inner.Keys.{set_of}
use Rattle.aggregate_store.proofs.key_tree.KeyTree.contains.Goals as goal

pub returns-in-Scalars : goal.returns-in-Scalars
returns-in-Scalars c =
    c.contains.ensures ∙ sym (set.contains-from_list scalar_cmp_total c.in-Scalars.scalars.keys c.args.key.now)
    ∙ sym (ap (λ (tree : KeyTree). set.contains (set_of tree) c.args.key.now) c.in-Scalars.is)
