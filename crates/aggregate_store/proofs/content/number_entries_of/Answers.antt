use Rattle.std.proofs.Common.{rules, ◌≡◌, [], map, sym, ap, ◌∙◌}
use Rattle.tsl_value.specs.inner.ScalarOrder.{scalar_cmp_total}
use Rattle.aggregate_store.specs.inner.Entries.{entry_of}
use Rattle.aggregate_store.proofs.FiniteMaps.{entries-of_entries}
use Rattle.aggregate_store.proofs.Gathered.{all_gathered}
use Rattle.aggregate_store.proofs.NumberEntries.{entries_rise}
use Rattle.aggregate_store.proofs.content.number_entries_of.Goals as goal

pub returns-clause-entries : goal.returns-clause-entries
returns-clause-entries c =
    let none : c.loop-number.number-iterator ≡ [] = search rules in
    all_gathered c.loop-number.list _ (map entry_of c.loop-number.number-iterator) c.loop-number.invariant.0 (ap (map entry_of) none)
    ∙ sym (entries-of_entries scalar_cmp_total (map entry_of c.args.entries.now.entries) (entries_rise c.args.entries.now.entries c.iter-rest.ensures.ordered))
