use Rattle.std.proofs.Common.{◌≡◌, ◌<◌, ℕ, map, length}
use Rattle.std.specs.List.{All, AllByRecursion}
use Rattle.monitor_state.specs.Fits.{named_by}
use Rattle.monitor_run.specs.inner.Registers.{register_at}
use Rattle.monitor_run.specs.inner.Resuming.{IsOnce, placed, register_with}
use Rattle.monitor_run.proofs.restored.set_registers.Given as goal

abbrev pub invariant-loop-id : goal.invariant-loop-id
invariant-loop-id l = record {
  size : length l.last ≡ length l.initial.last;
  once : IsOnce l.id-iterator.a.rest.now;
  known : All (λ i. i < length l.initial.last) l.id-iterator.a.rest.now;
  named : AllByRecursion (λ r. AllByRecursion (λ k. k < length l.handles) (named_by r)) l.id-iterator.b.rest.now;
  set :
      (v : ℕ) → placed l.id-iterator.a.rest.now (map (register_with l.handles) l.id-iterator.b.rest.now) v (register_at l.last v)
      ≡ placed l.keeps (map (register_with l.handles) l.saved) v (register_at l.initial.last v);
}
