use Rattle.std.proofs.Common.{arith}
use Rattle.delay_timers.proofs.TournamentLemmas.{mend_step, leaves_stay}
use Rattle.delay_timers.proofs.tree.mend.Goals as goal

pub loop-node-preserved : goal.loop-node-preserved
loop-node-preserved c =
    let inner = c.loop-node.invariant.inner in
    record {
      tree = mend_step _ _ _ _ _ _ c.loop-node.invariant.tree c.loop-node-test.true inner c.index-nodes-node.is c.index-nodes-node-in-loop-node.is c.first_of.ensures;
      inner = omega arith;
      leaves = leaves_stay _ _ _ _ _ inner c.loop-node.invariant.leaves;
    }
