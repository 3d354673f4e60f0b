use Rattle.std.proofs.Common.{◌-◌, length}
use Rattle.translation_order.specs.inner.Taking.{IsTaking}
use Rattle.translation_order.proofs.taking.take_all.Given as goal

abbrev pub invariant-loop-step : goal.invariant-loop-step
invariant-loop-step l = IsTaking l.steps l.pairs l.listed l.waits.items l.free

abbrev pub decreases-loop-step : goal.decreases-loop-step
decreases-loop-step l = l.steps - length l.listed
