use Rattle.std.proofs.Common.{◌<◌}
use Rattle.delay_timers.specs.inner.Tournament.{IsTreeBut, SameFrom}
use Rattle.delay_timers.proofs.tree.mend.Given as goal

abbrev pub invariant-loop-node : goal.invariant-loop-node
invariant-loop-node l = record { tree : IsTreeBut l.nodes l.delays l.node; inner : l.node < l.delays; leaves : SameFrom l.delays l.nodes l.initial.nodes }

abbrev pub decreases-loop-node : goal.decreases-loop-node
decreases-loop-node l = l.node
