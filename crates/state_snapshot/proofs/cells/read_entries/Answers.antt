use Rattle.std.proofs.lemmas.Result.{err_from_is_err_and}
use Rattle.state_snapshot.specs.inner.Reading.{entry_at, items_at}
use Rattle.state_snapshot.proofs.Loop.{ends, goes_on, is_done}
use Rattle.state_snapshot.proofs.cells.read_entries.Goals as goal

pub returns-in_err-entry : goal.returns-in_err-entry
returns-in_err-entry c =
    let p = err_from_is_err_and c.from_residual.result c.from_residual.ensures.1 in
    rw (p.1, p.2) (ends (entry_at c.args.key c.args.of) c.loop.entries c.args.count c.loop.counter c.loop.rest.now (items_at (entry_at c.args.key c.args.of) c.args.count c.args.bytes.now) c.loop.invariant c.in_err-entry.field-0.0 c.loop-test.true c.in_err-entry.ensures)

pub loop-preserved : goal.loop-preserved
loop-preserved c = rw c.in_ok-push.ensures.ok (goes_on (entry_at c.args.key c.args.of) c.loop.entries c.args.count c.loop.counter c.loop.rest.now (items_at (entry_at c.args.key c.args.of) c.args.count c.args.bytes.now) c.loop.invariant c.in_ok-entry.entry c.in_ok-entry.after.now c.loop-test.true c.in_ok-entry.ensures)

pub returns : goal.returns
returns c = is_done (entry_at c.args.key c.args.of) c.loop.entries c.args.count c.loop.counter c.loop.rest.now (items_at (entry_at c.args.key c.args.of) c.args.count c.args.bytes.now) c.loop.invariant c.loop-test.false
