use Rattle.std.proofs.Common.{map, sym, ap, ◌∙◌}
use Rattle.std.proofs.lemmas.List.{length-map}
use Rattle.std.specs.FinMap as finite_map
use Rattle.tsl_value.specs.inner.ScalarOrder.{scalar_cmp_total}
use Rattle.aggregate_store.specs.declared.entry_tree.EntryTree.{EntryTree}
use Rattle.aggregate_store.specs.inner.Entries.{entry_of, table_of}
use Rattle.aggregate_store.proofs.FiniteMaps.{len-of_entries}
use Rattle.aggregate_store.proofs.NumberEntries.{entries_rise}
use Rattle.aggregate_store.proofs.entry_tree.EntryTree.len.Goals as goal

pub returns-in-Numbers : goal.returns-in-Numbers
returns-in-Numbers c =
    let es = c.in-Numbers.numbers.entries in
    c.len.ensures.len ∙ sym (length-map es entry_of) ∙ sym (len-of_entries scalar_cmp_total (map entry_of es) (entries_rise es c.len.ensures.ordered))
    ∙ sym (ap (λ (tree : EntryTree). finite_map.len (table_of tree)) c.in-Numbers.is)

pub returns-in-Scalars : goal.returns-in-Scalars
returns-in-Scalars c =
    c.len-in-Scalars.ensures.len ∙ sym (len-of_entries scalar_cmp_total c.in-Scalars.scalars.entries c.len-in-Scalars.ensures.ordered)
    ∙ sym (ap (λ (tree : EntryTree). finite_map.len (table_of tree)) c.in-Scalars.is)
