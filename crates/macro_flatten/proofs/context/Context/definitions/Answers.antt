use Rattle.std.proofs.lemmas.Result.{err_from_is_err_and}
use Rattle.equation_marks.specs.Marks.{stream_marks}
use Rattle.macro_flatten.specs.inner.Items.{items_in, kinds_in}
use Rattle.macro_flatten.proofs.Definitions.{none_made, streams_end, streams_refused, streams_turn}
use Rattle.macro_flatten.proofs.Lists.{after_at}
use Rattle.macro_flatten.proofs.context.Context.definitions.Goals as goal
use Rattle.function_bodies.proofs.EndLemmas.{item_at}

pub definition-requires-clause-item : goal.definition-requires-clause-item
definition-requires-clause-item c = item_at c.args.self.now.items.now c.loop-number.number c.index-items-number.result c.loop-number-test.true c.index-items-number.is

pub loop-number-init : goal.loop-number-init
loop-number-init c = none_made c.args.self.now c.args.maker.now

pub loop-number-preserved : goal.loop-number-preserved
loop-number-preserved c =
    streams_turn c.args.self.now c.loop-number.number c.index-items-number.result c.loop-number-test.true c.index-items-number.is c.args.maker.now c.loop-number.maker c.definition.new.maker c.loop-number.invariant c.in_ok-definition.ensures.made

pub returns-in_err-definition-clause-refused : goal.returns-in_err-definition-clause-refused
returns-in_err-definition-clause-refused c =
    let p = err_from_is_err_and c.from_residual.result c.from_residual.ensures.1 in
    after_at c.from_residual.result p.0 _ c.args.maker.now (stream_marks (items_in c.args.self.now) (kinds_in c.args.self.now) 0 (items_in c.args.self.now)) p.1 p.2
    (streams_refused c.args.self.now c.loop-number.number c.index-items-number.result c.loop-number-test.true c.index-items-number.is c.args.maker.now c.loop-number.maker _ c.loop-number.invariant c.in_err-definition.ensures.refused)

pub returns-clause-made : goal.returns-clause-made
returns-clause-made c = streams_end c.args.self.now c.loop-number.number c.args.maker.now c.loop-number.maker c.loop-number-test.false c.loop-number.invariant
