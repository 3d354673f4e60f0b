use Rattle.std.proofs.Common.{◌++◌, map}
use Rattle.std.proofs.lemmas.Result.{err_from_is_err_and}
use Rattle.syntax_tree.specs.inner.OneLevel.{item_of}
use Rattle.tsl_value.proofs.Lists.{contains_at}
use Rattle.spec_meaning.specs.Inputs.{declared_inputs}
use Rattle.macro_flatten.proofs.Inputs.{left_all, left_none, left_refused, left_turn}
use Rattle.macro_flatten.proofs.Lists.{refusal_at}
use Rattle.macro_flatten.proofs.top.inputs.Goals as goal
use Rattle.function_bodies.proofs.EndLemmas.{item_at}

pub input-requires : goal.input-requires
input-requires c =
    c.requires.each (item_of c.item-item.result) (contains_at (map item_of c.args.items.now) c.loop-item.item-index (item_of c.item-item.result) (item_at c.args.items.now c.loop-item.item-index c.item-item.result c.loop-item-test.true c.item-item.is))

pub loop-item-init : goal.loop-item-init
loop-item-init c = left_all (map item_of c.args.items.now) c.args.maker.now c.new-streams.result.items c.new-streams.ensures.items

pub loop-item-preserved : goal.loop-item-preserved
loop-item-preserved c =
    left_turn (map item_of c.args.items.now) c.args.maker.now c.loop-item.maker c.input.new.maker c.loop-item.streams.items c.push.new.self.items c.in_ok-stream.stream c.args.items.now c.loop-item.item-index c.item-item.result c.loop-item.invariant c.loop-item-test.true c.item-item.is c.in_ok-stream.ensures.stream c.in_ok-stream.ensures.made c.in_ok-push.ensures.items

pub returns-in_err-stream-clause-refused : goal.returns-in_err-stream-clause-refused
returns-in_err-stream-clause-refused c =
    let p = err_from_is_err_and c.from_residual.result c.from_residual.ensures.1 in
    let items = map item_of c.args.items.now in
    refusal_at c.from_residual.result p.0 _ (c.args.maker.now.equations ++ declared_inputs items) p.1 p.2
    (left_refused items c.args.maker.now c.loop-item.maker c.loop-item.streams.items c.args.items.now c.loop-item.item-index c.item-item.result _ c.loop-item.invariant c.loop-item-test.true c.item-item.is c.in_err-stream.ensures.refused)

pub returns-clause-streams : goal.returns-clause-streams
returns-clause-streams c =
    (left_none (map item_of c.args.items.now) c.args.maker.now c.loop-item.maker c.loop-item.streams.items c.args.items.now c.loop-item.item-index c.loop-item.invariant c.loop-item-test.false).1

pub returns-clause-made : goal.returns-clause-made
returns-clause-made c =
    (left_none (map item_of c.args.items.now) c.args.maker.now c.loop-item.maker c.loop-item.streams.items c.args.items.now c.loop-item.item-index c.loop-item.invariant c.loop-item-test.false).0
