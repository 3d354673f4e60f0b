use Rattle.std.proofs.Common.{sym, subst, ap, ◌∙◌, to_z-of_z}
use Rattle.std.specs.BTreeSet as sorted
use Rattle.std.specs.FinSet as set
use Rattle.std.specs.Ordering.{int_cmp}
use Rattle.std.specs.Prelude.{true}
use Rattle.tsl_value.specs.View.{scalar_cmp}
use Rattle.tsl_value.specs.declared.scalar.Scalar.TheVariants as scalar
use Rattle.tsl_value.specs.inner.ScalarOrder.{scalar_cmp_total}
use Rattle.tsl_value.proofs.ScalarOrder.{scalar_cmp-IsAntisymmetric}
use Rattle.aggregate_store.specs.declared.key_tree.KeyTree.{KeyTree}
use Rattle.aggregate_store.specs.inner.Keys.{set_of}
use Rattle.aggregate_store.proofs.FiniteMaps.{set-insert}
use Rattle.aggregate_store.proofs.Numbers.{number_added}
use Rattle.aggregate_store.proofs.key_tree.KeyTree.insert_number.Goals as goal

pub returns-in_ok-insert-in-Numbers-clause-ok : goal.returns-in_ok-insert-in-Numbers-clause-ok
returns-in_ok-insert-in-Numbers-clause-ok c =
    let s = c.in-Numbers.numbers in let n = c.insert.new.self in
    let updates = subst (λ z. sorted.Updates int_cmp s n z true) (to_z-of_z c.ranges.number) c.in_ok-insert-in-Numbers.ensures.updates in
    number_added s n c.args.number updates
    ∙ sym (ap (λ (tree : KeyTree). set.insert (set_of tree) (scalar.Int c.args.number)) c.in-Numbers.is)

pub returns-in_ok-insert-in-Scalars-clause-ok : goal.returns-in_ok-insert-in-Scalars-clause-ok
returns-in_ok-insert-in-Scalars-clause-ok c =
    let s = c.in-Scalars.scalars in let n = c.insert-in-Scalars.new.self in
    let updates = subst (λ z. sorted.Updates scalar_cmp s n (scalar.Int z) true) (to_z-of_z c.ranges.number) c.in_ok-insert-in-Scalars.ensures.updates in
    set-insert scalar_cmp_total scalar_cmp-IsAntisymmetric s.keys n.keys (scalar.Int c.args.number) updates.0
    ∙ sym (ap (λ (tree : KeyTree). set.insert (set_of tree) (scalar.Int c.args.number)) c.in-Scalars.is)
