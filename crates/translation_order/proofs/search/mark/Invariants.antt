use Rattle.std.proofs.Common.{take}
use Rattle.translation_order.specs.inner.Searching.{AreMarked}
use Rattle.translation_order.proofs.search.mark.Given as goal

abbrev pub invariant-loop-node : goal.invariant-loop-node
invariant-loop-node l = AreMarked (take l.node-index l.nodes) l.on_cycle l.initial.visits l.visits
