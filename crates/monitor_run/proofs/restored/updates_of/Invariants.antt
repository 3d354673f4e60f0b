use Rattle.std.proofs.Common.{◌≡◌}
use Rattle.std.specs.List.{filter, range_with_len}
use Rattle.flat_core.specs.Updates.{is_running_update}
use Rattle.monitor_run.proofs.restored.updates_of.Given as goal

abbrev pub invariant-loop-number : goal.invariant-loop-number
invariant-loop-number l = l.ids.items ≡ filter (is_running_update l.flat) (range_with_len 0 l.number)
