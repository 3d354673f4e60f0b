use Rattle.state_snapshot.specs.inner.Reading.{items_at, optional_at}
use Rattle.state_snapshot.proofs.Loop.{goes_on}
use Rattle.state_snapshot.proofs.monitor.read_pending.Goals as goal

pub loop-preserved : goal.loop-preserved
loop-preserved c = rw c.in_ok-push-in-Ok.ensures.ok (goes_on optional_at c.loop.times c.args.count c.loop.counter c.loop.rest.now (items_at optional_at c.args.count c.args.bytes.now) c.loop.invariant c.in-Ok.time c.in-Ok.after.now c.loop-test.true c.in-Ok.ensures)
