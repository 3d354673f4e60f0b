use Rattle.std.proofs.lemmas.Result.{err_from_is_err_and}
use Rattle.state_snapshot.specs.inner.Reading.{items_at, scalar_at}
use Rattle.state_snapshot.proofs.Loop.{ends, goes_on, is_done}
use Rattle.state_snapshot.proofs.cells.read_scalars.Goals as goal

pub returns-in_err-value : goal.returns-in_err-value
returns-in_err-value c =
    let p = err_from_is_err_and c.from_residual.result c.from_residual.ensures.1 in
    rw (p.1, p.2) (ends (scalar_at c.args.of) c.loop.values c.args.count c.loop.counter c.loop.rest.now (items_at (scalar_at c.args.of) c.args.count c.args.bytes.now) c.loop.invariant c.in_err-value.field-0.0 c.loop-test.true c.in_err-value.ensures)

pub loop-preserved : goal.loop-preserved
loop-preserved c = rw c.in_ok-push.ensures.ok (goes_on (scalar_at c.args.of) c.loop.values c.args.count c.loop.counter c.loop.rest.now (items_at (scalar_at c.args.of) c.args.count c.args.bytes.now) c.loop.invariant c.in_ok-value.value c.in_ok-value.after.now c.loop-test.true c.in_ok-value.ensures)

pub returns : goal.returns
returns c = is_done (scalar_at c.args.of) c.loop.values c.args.count c.loop.counter c.loop.rest.now (items_at (scalar_at c.args.of) c.args.count c.args.bytes.now) c.loop.invariant c.loop-test.false
