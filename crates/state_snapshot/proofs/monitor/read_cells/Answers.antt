use Rattle.std.proofs.lemmas.Result.{err_from_is_err_and}
use Rattle.state_snapshot.specs.inner.Reading.{cells_at}
use Rattle.state_snapshot.proofs.Loop.{cells_done, cells_end, cells_go_on, item_any}
use Rattle.state_snapshot.proofs.monitor.read_cells.Goals as goal

pub returns-in_err-content : goal.returns-in_err-content
returns-in_err-content c =
    let p = err_from_is_err_and c.from_residual.result c.from_residual.ensures.1 in
    rw (p.1, p.2) (cells_end c.args.types.now c.loop-of.cells c.loop-of.of-index c.loop-of.rest.now (cells_at c.args.types.now c.args.bytes.now) c.loop-of.invariant
    _ c.in_err-content.field-0.0 c.loop-of-test.true (item_any c.args.types.now c.loop-of.of-index _ _ c.loop-of-test.true) c.in_err-content.ensures)

pub loop-of-preserved : goal.loop-of-preserved
loop-of-preserved c = rw c.in_ok-push.ensures.ok (cells_go_on c.args.types.now c.loop-of.cells c.loop-of.of-index c.loop-of.rest.now (cells_at c.args.types.now c.args.bytes.now) c.loop-of.invariant
    _ c.in_ok-content.content c.in_ok-content.after.now c.loop-of-test.true (item_any c.args.types.now c.loop-of.of-index _ _ c.loop-of-test.true) c.in_ok-content.ensures)

pub returns : goal.returns
returns c = cells_done c.args.types.now c.loop-of.cells c.loop-of.of-index c.loop-of.rest.now (cells_at c.args.types.now c.args.bytes.now) c.loop-of.invariant c.loop-of-test.false
