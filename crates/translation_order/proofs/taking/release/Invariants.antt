use Rattle.std.proofs.Common.{take}
use Rattle.translation_order.specs.inner.Taking.{AreReleased}
use Rattle.translation_order.proofs.taking.release.Given as goal

abbrev pub invariant-loop-step : goal.invariant-loop-step
invariant-loop-step l = AreReleased (take l.step-index l.steps) l.initial.waits l.waits l.initial.free l.free
