use Rattle.std.proofs.Common.{◌≡◌, length}
use Rattle.std.specs.List.{filter, range_with_len}
use Rattle.flat_core.specs.Updates.{is_running_update}
use Rattle.state_snapshot.proofs.monitor.count_updates.Given as goal

abbrev pub invariant-loop-number : goal.invariant-loop-number
invariant-loop-number l = l.count ≡ length (filter (is_running_update l.flat) (range_with_len 0 l.number))
