use Rattle.std.proofs.Common.{map}
use Rattle.syntax_tree.specs.inner.OneLevel.{item_of}
use Rattle.function_bodies.proofs.MadeLemmas.{none_made}
use Rattle.function_bodies.proofs.EndLemmas.{one_more_made, all_made}
use Rattle.function_bodies.proofs.functions.Functions.of.Goals as goal

pub loop-number-init : goal.loop-number-init
loop-number-init c = none_made c.args.items.now c.in_ok-bodies.bodies.items c.in_ok-bodies.ensures

pub loop-number-preserved : goal.loop-number-preserved
loop-number-preserved c =
    one_more_made (map item_of c.args.items.now) c.args.names.now c.args.order.now c.as_slice-number-items.result.now c.requires.order c.requires.plain c.requires.names c.as_slice-number-items.ensures
    c.loop-number.number-index c.loop-number-test.true c.loop-number.bodies.items c.make.new.bodies.items c.loop-number.invariant c.in_ok-make.ensures

pub returns : goal.returns
returns c =
    all_made (map item_of c.args.items.now) c.args.order.now c.as_slice-number-items.result.now c.requires.order c.requires.plain c.as_slice-number-items.ensures
    c.loop-number.number-index c.loop-number-test.false c.loop-number.bodies.items c.loop-number.invariant
