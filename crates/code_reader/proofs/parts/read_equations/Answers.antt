use Rattle.std.proofs.lemmas.Result.{err_from_is_err_and}
use Rattle.code_reader.proofs.Entering.{all_entered, none_entered, none_more, numbers_low, one_entered}
use Rattle.code_reader.proofs.parts.read_equations.Goals as goal

pub loop-number-init : goal.loop-number-init
loop-number-init c = none_entered c.args.count c.new-all.result.items c.new-running.result c.args.bytes.now c.new-all.ensures.items c.new-running.ensures

pub returns-in_err-entry : goal.returns-in_err-entry
returns-in_err-entry c =
    let p = err_from_is_err_and c.from_residual.result c.from_residual.ensures.1 in
    rw (p.1, p.2) (none_more c.loop-number.number c.args.count c.loop-number.all.items c.loop-number.running c.loop-number.rest.now c.args.bytes.now c.loop-number.invariant
    c.in_err-entry.field-0.0 c.loop-number-test.true c.in_err-entry.ensures)

pub add_running-requires : goal.add_running-requires
add_running-requires c = numbers_low c.loop-number.number c.args.count c.loop-number.all.items c.loop-number.running c.loop-number.rest.now c.args.bytes.now c.loop-number.invariant

pub loop-number-preserved : goal.loop-number-preserved
loop-number-preserved c =
    one_entered c.loop-number.number c.args.count c.loop-number.all.items c.loop-number.running c.loop-number.rest.now c.args.bytes.now c.loop-number.invariant
    c.in_ok-entry.entry c.in_ok-entry.after.now c.push.new.self.items c.add_running.new.running
    c.loop-number-test.true c.in_ok-entry.ensures c.in_ok-push.ensures.items c.in_ok-add_running.ensures

pub returns : goal.returns
returns c =
    all_entered c.loop-number.number c.args.count c.loop-number.all.items c.loop-number.running c.loop-number.rest.now c.args.bytes.now c.loop-number.invariant c.loop-number-test.false
