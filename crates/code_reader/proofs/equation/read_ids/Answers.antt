use Rattle.std.proofs.lemmas.Result.{err_from_is_err_and}
use Rattle.code_file.specs.inner.Reading.{items_at, number_at}
use Rattle.code_reader.proofs.Loop.{ends, goes_on, is_done}
use Rattle.code_reader.proofs.equation.read_ids.Goals as goal

pub returns-in_err-number : goal.returns-in_err-number
returns-in_err-number c =
    let p = err_from_is_err_and c.from_residual.result c.from_residual.ensures.1 in
    rw (p.1, p.2) (ends number_at c.in_err-number.field-0.0 c.loop.args c.args.count c.loop.counter c.loop.rest.now (items_at number_at c.args.count c.args.bytes.now) c.loop-test.true c.in_err-number.ensures c.loop.invariant)

pub loop-preserved : goal.loop-preserved
loop-preserved c =
    rw (c.in_ok-push.ensures, c.new.ensures) (goes_on number_at c.loop.args c.args.count c.loop.counter c.loop.rest.now c.in_ok-number.number c.in_ok-number.after.now (items_at number_at c.args.count c.args.bytes.now) c.loop-test.true c.in_ok-number.ensures c.loop.invariant)

pub returns : goal.returns
returns c = is_done number_at c.loop.args c.args.count c.loop.counter c.loop.rest.now (items_at number_at c.args.count c.args.bytes.now) c.loop-test.false c.loop.invariant
