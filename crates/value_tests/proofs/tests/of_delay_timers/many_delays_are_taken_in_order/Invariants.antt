use Rattle.std.proofs.Common.{◌≡◌}
use Rattle.value_tests.proofs.tests.of_delay_timers.many_delays_are_taken_in_order.Given as goal

abbrev pub invariant-loop-delay : goal.invariant-loop-delay
invariant-loop-delay g l = l.timers.capacity ≡ 1000
