use Rattle.std.proofs.Common.{take}
use Rattle.translation_order.specs.inner.Searching.{AreSuccessors}
use Rattle.call_limits.proofs.depth.successors.Given as goal

abbrev pub invariant-loop-from : goal.invariant-loop-from
invariant-loop-from l = AreSuccessors l.count (take l.from-index l.edges) l.successors.items
