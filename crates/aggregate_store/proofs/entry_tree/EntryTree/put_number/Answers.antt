use Rattle.std.proofs.Common.{Some, sym, subst, ap, ◌∙◌, to_z-of_z}
use Rattle.std.specs.BTreeMap as tree
use Rattle.std.specs.FinMap as finite_map
use Rattle.std.specs.Ordering.{int_cmp}
use Rattle.tsl_value.specs.declared.scalar.Scalar.TheVariants as scalar
use Rattle.aggregate_store.specs.declared.entry_tree.EntryTree.{EntryTree}
use Rattle.aggregate_store.specs.inner.Entries.{table_of, table_of_numbers}
use Rattle.aggregate_store.proofs.NumberEntries.{number_put}
use Rattle.aggregate_store.proofs.entry_tree.EntryTree.put_number.Goals as goal

pub returns-in_ok-insert-in-Numbers-clause-ok : goal.returns-in_ok-insert-in-Numbers-clause-ok
returns-in_ok-insert-in-Numbers-clause-ok c =
    let m = c.in-Numbers.numbers in let n = c.insert.new.self in let v = c.in_ok-copy-in-Numbers.field-0 in
    let updates = subst (λ z. tree.Updates int_cmp m n z (Some v)) (to_z-of_z c.ranges.number) c.in_ok-insert-in-Numbers.ensures.updates in
    number_put m n c.args.number v updates
    ∙ ap (finite_map.insert (table_of_numbers m) (scalar.Int c.args.number)) c.in_ok-copy-in-Numbers.ensures.equal
    ∙ sym (ap (λ (tree : EntryTree). finite_map.insert (table_of tree) (scalar.Int c.args.number) c.args.value.now) c.in-Numbers.is)
