use Rattle.std.proofs.Common.{map}
use Rattle.aggregate_store.specs.inner.Entries.{entry_of}
use Rattle.aggregate_store.proofs.NumberEntries.{entries_rise}
use Rattle.aggregate_store.proofs.SameCells.{number_entries_same, tables_same}
use Rattle.aggregate_store.proofs.same.is_same_number_entries.Goals as goal

pub returns : goal.returns
returns c =
    let m = c.args.a.now in let n = c.args.b.now in
    tables_same
    (map entry_of m.entries) (map entry_of n.entries) _ (number_entries_same m n _ c.eq.ensures)
    (entries_rise m.entries c.iter.ensures.ordered) (entries_rise n.entries c.iter-2.ensures.ordered)
