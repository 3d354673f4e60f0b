use Rattle.aggregate_store.proofs.SameCells.{scalar_entries_same, tables_same}
use Rattle.aggregate_store.proofs.same.is_same_scalar_entries.Goals as goal

pub returns : goal.returns
returns c =
    let m = c.args.a.now in let n = c.args.b.now in
    tables_same m.entries n.entries _ (scalar_entries_same m n _ c.eq.ensures) c.iter.ensures.ordered c.iter-2.ensures.ordered
