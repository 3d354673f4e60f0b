use Rattle.std.proofs.Common.{length, take}
use Rattle.call_limits.proofs.DepthLemmas.{AreKnown}
use Rattle.call_limits.proofs.depth.depths.Given as goal

abbrev pub invariant-loop-item : goal.invariant-loop-item
invariant-loop-item l = AreKnown l.counted l.passed (length l.counted) (take l.item-index l.order) l.depths.items
