use Rattle.std.proofs.Common.{◌≡◌, ◌<◌, ◌^◌, map}
use Rattle.std.specs.Prelude.{slice_index}
use Rattle.std.specs.List.{AllByRecursion, filter, range_with_len}
use Rattle.flat_core.specs.Updates.{is_running_update}
use Rattle.monitor_run.proofs.saved.ledger_of.Given as goal

abbrev pub invariant-loop-number : goal.invariant-loop-number
invariant-loop-number l =
    (l.counts ≡ map (slice_index l.store.ledger) (filter (is_running_update l.flat) (range_with_len 0 l.number)))
    × AllByRecursion (λ n. n < 2 ^ 64) l.counts
