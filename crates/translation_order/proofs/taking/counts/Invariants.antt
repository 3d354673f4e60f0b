use Rattle.std.proofs.Common.{[], take}
use Rattle.translation_order.specs.inner.Taking.{AreWaits}
use Rattle.translation_order.proofs.taking.counts.Given as goal

abbrev pub invariant-loop-second : goal.invariant-loop-second
invariant-loop-second l = AreWaits l.steps (take l.second-index l.pairs) [] l.waits.items
