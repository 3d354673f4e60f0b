use Rattle.decision_diagrams.proofs.Nodes.{grows_on, grows_same}
use Rattle.trigger_diagram.proofs.Truths.{all_next, tells_yes}
use Rattle.trigger_diagram.proofs.formula.all.Goals as goal

pub loop-arg-init : goal.loop-arg-init
loop-arg-init c = record { grows = grows_same c.args.arena.now; tells = tells_yes c.args.arena.now }

pub loop-arg-preserved : goal.loop-arg-preserved
loop-arg-preserved c = record {
  grows = grows_on c.args.arena.now c.loop-arg.arena c.both.new.arena c.loop-arg.invariant.grows c.both.ensures.grows;
  tells =
      all_next c.args.arena.now c.loop-arg.arena c.both.new.arena c.args.nodes.now c.args.args.now c.loop-arg.arg-index c.arg-item.result c.node_at.result c.loop-arg.node c.in_ok-node.node c.loop-arg-test.true c.arg-item.is c.node_at.ensures c.loop-arg.invariant.grows
      c.requires.there c.loop-arg.invariant.tells c.in_ok-node.ensures.exact;
}
