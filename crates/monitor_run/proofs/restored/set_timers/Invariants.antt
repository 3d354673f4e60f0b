use Rattle.std.proofs.Common.{◌≡◌, ◌<◌, ℕ}
use Rattle.std.specs.FinMap as finite_map
use Rattle.std.specs.List.{All}
use Rattle.monitor_run.specs.inner.Resuming.{IsOnce, placed}
use Rattle.monitor_run.proofs.restored.set_timers.Given as goal

abbrev pub invariant-loop-id : goal.invariant-loop-id
invariant-loop-id l = record {
  capacity : l.timers.capacity ≡ l.initial.timers.capacity;
  once : IsOnce l.id-iterator.a.rest.now;
  known : All (λ i. i < l.initial.timers.capacity) l.id-iterator.a.rest.now;
  set :
      (d : ℕ) → placed l.id-iterator.a.rest.now l.id-iterator.b.rest.now d (finite_map.get l.timers.times d)
      ≡ placed l.delays l.times d (finite_map.get l.initial.timers.times d);
}
