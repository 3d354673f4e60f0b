use Rattle.std.proofs.Common.{[]}
use Rattle.translation_order.specs.inner.Taking.{AreFree}
use Rattle.translation_order.proofs.taking.free_steps.Given as goal

abbrev pub invariant-loop-step : goal.invariant-loop-step
invariant-loop-step l = AreFree l.step [] l.waits l.free
