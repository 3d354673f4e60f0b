use Rattle.std.proofs.Common.{rules}
use Rattle.aggregate_store.specs.inner.Stored.{is_listed}
use Rattle.aggregate_store.proofs.Cells.{swept_all}
use Rattle.aggregate_store.proofs.slots.drop_others.Goals as goal

pub returns : goal.returns
returns c = swept_all c.args.slots.now.items (is_listed c.args.cells.now) c.loop-place.place c.loop-place.slots.items c.loop-place.invariant.0 (search rules)
