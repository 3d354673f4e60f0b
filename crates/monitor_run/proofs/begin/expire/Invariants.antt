use Rattle.std.proofs.Common.{◌≡◌, ◌≤◌, length}
use Rattle.std.specs.Prelude.{IsFalse}
use Rattle.std.specs.FinMap as finite_map
use Rattle.monitor_run.specs.inner.Visits.{AreFilled}
use Rattle.monitor_run.proofs.BeginLemmas.{AreExpiring}
use Rattle.monitor_run.proofs.begin.expire.Given as goal

abbrev pub invariant-loop-delay : goal.invariant-loop-delay
invariant-loop-delay l = record {
  each : AreExpiring l.time l.fn.timers.times l.timers.times l.fn.registers l.registers;
  capacity : l.timers.capacity ≡ l.fn.timers.capacity;
  room : l.timers.capacity ≤ length l.registers;
  filled_are : IsFalse l.all → AreFilled l.fn.filled.items l.fn.registers → AreFilled l.filled.items l.registers;
}

abbrev pub decreases-loop-delay : goal.decreases-loop-delay
decreases-loop-delay l = finite_map.len l.timers.times
