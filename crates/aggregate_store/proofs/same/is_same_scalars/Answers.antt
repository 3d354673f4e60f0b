use Rattle.aggregate_store.proofs.SameCells.{queues_same, sets_same}
use Rattle.aggregate_store.proofs.same.is_same_scalars.Goals as goal

pub returns : goal.returns
returns c =
    let xs = c.args.a.now.keys in let ys = c.args.b.now.keys in
    sets_same xs ys _ (queues_same xs ys _ c.eq.ensures) c.iter.ensures.ordered c.iter-2.ensures.ordered
