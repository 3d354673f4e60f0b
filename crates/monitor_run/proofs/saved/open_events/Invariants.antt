use Rattle.std.proofs.Common.{◌≡◌}
use Rattle.std.specs.List.{AllByRecursion}
use Rattle.aggregate_store.specs.Content.{IsInRange}
use Rattle.monitor_run.specs.inner.Taking.{opened_below}
use Rattle.monitor_run.proofs.saved.open_events.Given as goal

abbrev pub invariant-loop-number : goal.invariant-loop-number
invariant-loop-number l = (l.events ≡ opened_below l.given l.number) × AllByRecursion (λ e. IsInRange e.value) l.events
