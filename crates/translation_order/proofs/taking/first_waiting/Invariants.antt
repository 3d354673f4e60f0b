use Rattle.std.proofs.Common.{◌≡◌, ℕ, ◌<◌, get_or}
use Rattle.translation_order.proofs.taking.first_waiting.Given as goal

abbrev pub invariant-loop-step : goal.invariant-loop-step
invariant-loop-step l = (x : ℕ) → x < l.step → get_or l.waits x 0 ≡ 0
