use Rattle.std.proofs.Common.{◌≡◌}
use Rattle.value_tests.proofs.tests.of_delay_timers.each_delay_comes_first_in_turn.Given as goal

abbrev pub invariant-loop-delay : goal.invariant-loop-delay
invariant-loop-delay g l = l.timers.capacity ≡ 4

abbrev pub invariant-loop-at : goal.invariant-loop-at
invariant-loop-at g l = l.timers.capacity ≡ 4
