use Rattle.std.proofs.Common.{length, take}
use Rattle.translation_order.specs.inner.Walking.{AreLeastBefore}
use Rattle.translation_order.proofs.cycle.least_before.Given as goal

abbrev pub invariant-loop-first : goal.invariant-loop-first
invariant-loop-first l = AreLeastBefore (length l.waits) (take l.first-index l.pairs) l.waits l.before.items
