use Rattle.std.proofs.lemmas.Result.{err_from_is_err_and}
use Rattle.state_snapshot.specs.inner.Reading.{kept_types, registers_at}
use Rattle.state_snapshot.proofs.Loop.{registers_done, registers_end, registers_go_on}
use Rattle.state_snapshot.proofs.monitor.read_registers.Goals as goal

pub equation-requires : goal.equation-requires
equation-requires c = rw c.id-item.is (c.requires c.loop-id.id-index _ c.loop-id-test.true)

pub returns-in_err-register : goal.returns-in_err-register
returns-in_err-register c =
    let p = err_from_is_err_and c.from_residual.result c.from_residual.ensures.1 in
    let whole = registers_at c.args.types.now.items (kept_types c.args.flat.now c.args.keeps.now) c.args.bytes.now in
    rw (p.1, p.2) (registers_end c.args.flat.now c.args.keeps.now c.loop-id.registers c.loop-id.types.items c.loop-id.id-index c.loop-id.rest.now whole c.loop-id.invariant
    c.id-item.result c.equation.result.now c.in_err-register.field-0.0 c.loop-id-test.true c.id-item.is c.equation.ensures c.in_err-register.ensures)

pub loop-id-preserved : goal.loop-id-preserved
loop-id-preserved c =
    let whole = registers_at c.args.types.now.items (kept_types c.args.flat.now c.args.keeps.now) c.args.bytes.now in
    rw c.in_ok-push.ensures.ok (registers_go_on c.args.flat.now c.args.keeps.now c.loop-id.registers c.loop-id.types.items c.loop-id.id-index c.loop-id.rest.now whole c.loop-id.invariant
    c.id-item.result c.equation.result.now c.in_ok-register.register c.read_register.new.types.items c.in_ok-register.after.now c.loop-id-test.true c.id-item.is c.equation.ensures c.in_ok-register.ensures)

pub returns : goal.returns
returns c =
    let whole = registers_at c.args.types.now.items (kept_types c.args.flat.now c.args.keeps.now) c.args.bytes.now in
    registers_done c.args.flat.now c.args.keeps.now c.loop-id.registers c.loop-id.types.items c.loop-id.id-index c.loop-id.rest.now whole c.loop-id.invariant c.loop-id-test.false
