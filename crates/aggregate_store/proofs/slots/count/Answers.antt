use Rattle.aggregate_store.proofs.Cells.{count_all}
use Rattle.aggregate_store.proofs.slots.count.Goals as goal

pub returns : goal.returns
returns c = count_all c.args.slots.now c.loop-slot.slot-index c.loop-slot.count c.loop-slot-test.false c.loop-slot.invariant.0
