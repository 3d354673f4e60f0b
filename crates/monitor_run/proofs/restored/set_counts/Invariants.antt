use Rattle.std.proofs.Common.{◌≡◌, ◌<◌, ℕ, length}
use Rattle.std.specs.Prelude.{slice_index}
use Rattle.std.specs.List.{All}
use Rattle.monitor_run.specs.inner.Resuming.{IsOnce, placed}
use Rattle.monitor_run.proofs.restored.set_counts.Given as goal

abbrev pub invariant-loop-id : goal.invariant-loop-id
invariant-loop-id l = record {
  cells : l.store.cells ≡ l.initial.store.cells;
  size : length l.store.ledger ≡ length l.initial.store.ledger;
  once : IsOnce l.id-iterator.a.rest.now;
  known : All (λ u. u < length l.initial.store.ledger) l.id-iterator.a.rest.now;
  set :
      (u : ℕ) → placed l.id-iterator.a.rest.now l.id-iterator.b.rest.now u (slice_index l.store.ledger u)
      ≡ placed l.updates l.counts u (slice_index l.initial.store.ledger u);
}
