use Rattle.std.proofs.Common.{◌≡◌, ◌++◌, take}
use Rattle.translation_order.proofs.cycle.push_all.Given as goal

abbrev pub invariant-loop-step : goal.invariant-loop-step
invariant-loop-step l = l.list ≡ l.initial.list ++ take l.step-index l.steps
