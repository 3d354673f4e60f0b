use Rattle.aggregate_store.proofs.SameCells.{queues_same}
use Rattle.aggregate_store.proofs.same.is_same_queue.Goals as goal

pub returns : goal.returns
returns c = queues_same c.args.a.now.items c.args.b.now.items _ c.eq.ensures
