use Rattle.std.proofs.Common.{arith}
use Rattle.std.proofs.lemmas.Result.{err_from_is_err_and}
use Rattle.state_snapshot.proofs.Answered.{begins_other, begins_wrong, fields_other, fields_wrong, found}
use Rattle.state_snapshot.proofs.read.read_state.Goals as goal

pub returns-in_err-fields-clause-other : goal.returns-in_err-fields-clause-other
returns-in_err-fields-clause-other c =
    let p = err_from_is_err_and c.from_residual.result c.from_residual.ensures.1 in
    begins_other c.args.code.now c.args.bytes.now c.from_residual.result p.0 c.in_err-fields.field-0.0 p.1 p.2 c.in_err-fields.ensures

pub returns-in_err-fields-clause-wrong : goal.returns-in_err-fields-clause-wrong
returns-in_err-fields-clause-wrong c =
    let p = err_from_is_err_and c.from_residual.result c.from_residual.ensures.1 in
    begins_wrong c.args.code.now c.args.bytes.now c.from_residual.result p.0 c.in_err-fields.field-0.0 p.1 p.2 c.in_err-fields.ensures c.assert_few.ensures

pub returns-clause-found : goal.returns-clause-found
returns-clause-found c = found c.args.code.now c.args.bytes.now c.in_ok-fields.fields.now c.read_all.result (λ i. omega (arith, c.type_inv.bytes i)) c.in_ok-fields.ensures c.read_all.ensures

pub returns-clause-other : goal.returns-clause-other
returns-clause-other c = fields_other c.args.code.now c.args.bytes.now c.in_ok-fields.fields.now c.read_all.result (λ i. omega (arith, c.type_inv.bytes i)) c.in_ok-fields.ensures c.read_all.ensures

pub returns-clause-wrong : goal.returns-clause-wrong
returns-clause-wrong c = fields_wrong c.args.code.now c.args.bytes.now c.in_ok-fields.fields.now c.read_all.result (λ i. omega (arith, c.type_inv.bytes i)) c.in_ok-fields.ensures c.read_all.ensures c.assert_whole.ensures.is_flat c.assert_few.ensures
