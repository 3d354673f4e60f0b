use Rattle.std.proofs.lemmas.Result.{err_from_is_err_and}
use Rattle.state_snapshot.specs.inner.Reading.{event_at, items_at}
use Rattle.state_snapshot.proofs.Loop.{ends, goes_on, is_done}
use Rattle.state_snapshot.proofs.monitor.read_some_events.Goals as goal

pub returns-in_err-event : goal.returns-in_err-event
returns-in_err-event c =
    let p = err_from_is_err_and c.from_residual.result c.from_residual.ensures.1 in
    rw (p.1, p.2) (ends (event_at c.args.flat.now) c.loop.events c.args.count c.loop.counter c.loop.rest.now (items_at (event_at c.args.flat.now) c.args.count c.args.bytes.now) c.loop.invariant c.in_err-event.field-0.0 c.loop-test.true c.in_err-event.ensures)

pub loop-preserved : goal.loop-preserved
loop-preserved c = rw c.in_ok-push.ensures.ok (goes_on (event_at c.args.flat.now) c.loop.events c.args.count c.loop.counter c.loop.rest.now (items_at (event_at c.args.flat.now) c.args.count c.args.bytes.now) c.loop.invariant c.in_ok-event.event c.in_ok-event.after.now c.loop-test.true c.in_ok-event.ensures)

pub returns : goal.returns
returns c = is_done (event_at c.args.flat.now) c.loop.events c.args.count c.loop.counter c.loop.rest.now (items_at (event_at c.args.flat.now) c.args.count c.args.bytes.now) c.loop.invariant c.loop-test.false
