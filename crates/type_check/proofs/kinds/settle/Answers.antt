use Rattle.std.proofs.Common.{map, get_or, refl}
use Rattle.syntax_tree.specs.inner.OneLevel.{item_of}
use Rattle.expr_types.specs.inner.Shown.{kinds_of}
use Rattle.type_check.proofs.KindLemmas.{place_within, settled_turn, settled_written, settled_all}
use Rattle.type_check.proofs.kinds.settle.Goals as goal

pub bounds-places-node : goal.bounds-places-node
bounds-places-node c = place_within (map item_of c.args.items.now) c.args.order.now c.loop-node.node-index (get_or c.args.order.now c.loop-node.node-index 0) 0 c.args.places.now c.requires.order c.loop-node-test.true refl c.requires.places

pub loop-node-preserved : goal.loop-node-preserved
loop-node-preserved c =
    settled_turn (map item_of c.args.items.now) c.args.order.now c.loop-node.node-index (get_or c.args.order.now c.loop-node.node-index 0) 0 c.args.places.now _ _ c.in_ok-kind.kind (kinds_of c.args.kinds.now) (kinds_of c.loop-node.kinds) (kinds_of c.set.new.kinds) c.requires.order c.loop-node-test.true refl c.requires.places refl c.in_ok-kind.ensures c.in_ok-set.ensures c.loop-node.invariant

pub returns-clause-written : goal.returns-clause-written
returns-clause-written c = settled_written (map item_of c.args.items.now) c.args.order.now c.loop-node.node-index (kinds_of c.args.kinds.now) (kinds_of c.loop-node.kinds) c.requires.order c.loop-node-test.false c.loop-node.invariant

pub returns-clause-all : goal.returns-clause-all
returns-clause-all c = settled_all (map item_of c.args.items.now) c.args.order.now c.loop-node.node-index (kinds_of c.args.kinds.now) (kinds_of c.loop-node.kinds) c.requires.order c.loop-node-test.false c.loop-node.invariant
