use Rattle.std.proofs.Common.{◌-◌, length}
use Rattle.translation_order.specs.inner.Walking.{IsWalking}
use Rattle.translation_order.proofs.cycle.walk_from.Given as goal

abbrev pub invariant-loop-seen : goal.invariant-loop-seen
invariant-loop-seen l = IsWalking l.before l.start l.steps l.at l.seen.items

abbrev pub decreases-loop-seen : goal.decreases-loop-seen
decreases-loop-seen l = length l.before - length l.steps
