use Rattle.std.proofs.Common.{◌+◌, ◌≤◌, length, arith}
use Rattle.std.proofs.lemmas.Result.{err_from_is_err_and}
use Rattle.equation_marks.specs.Marks.{output_marks}
use Rattle.macro_flatten.specs.inner.Items.{items_in, kinds_in}
use Rattle.macro_flatten.proofs.Lists.{after_at}
use Rattle.macro_flatten.proofs.Outputs.{none_printed, outputs_end, outputs_refused, outputs_turn, room_turn}
use Rattle.macro_flatten.proofs.context.Context.outputs.Goals as goal
use Rattle.function_bodies.proofs.EndLemmas.{item_at}

pub output-requires-clause-item : goal.output-requires-clause-item
output-requires-clause-item c = item_at c.args.self.now.items.now c.loop-number.number c.index-items-number.result c.loop-number-test.true c.index-items-number.is

pub output-requires-clause-room : goal.output-requires-clause-room
output-requires-clause-room c =
    let few : length c.loop-number.maker.outputs ≤ length c.args.maker.now.outputs + c.loop-number.number =
    room_turn c.args.self.now c.loop-number.number c.index-items-number.result c.loop-number-test.true c.index-items-number.is c.args.maker.now c.loop-number.maker c.loop-number.invariant in
    omega arith

pub loop-number-init : goal.loop-number-init
loop-number-init c = none_printed c.args.self.now c.args.maker.now

pub loop-number-preserved : goal.loop-number-preserved
loop-number-preserved c =
    outputs_turn c.args.self.now c.loop-number.number c.index-items-number.result c.loop-number-test.true c.index-items-number.is c.args.maker.now c.loop-number.maker c.output.new.maker c.loop-number.invariant c.in_ok-output.ensures.made

pub returns-in_err-output-clause-refused : goal.returns-in_err-output-clause-refused
returns-in_err-output-clause-refused c =
    let p = err_from_is_err_and c.from_residual.result c.from_residual.ensures.1 in
    after_at c.from_residual.result p.0 _ c.args.maker.now (output_marks (items_in c.args.self.now) (kinds_in c.args.self.now) 0 (items_in c.args.self.now)) p.1 p.2
    (outputs_refused c.args.self.now c.loop-number.number c.index-items-number.result c.loop-number-test.true c.index-items-number.is c.args.maker.now c.loop-number.maker _ c.loop-number.invariant c.in_err-output.ensures.refused)

pub returns-clause-made : goal.returns-clause-made
returns-clause-made c = outputs_end c.args.self.now c.loop-number.number c.args.maker.now c.loop-number.maker c.loop-number-test.false c.loop-number.invariant
