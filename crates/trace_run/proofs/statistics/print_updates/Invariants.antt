use Rattle.std.proofs.Common.{◌≡◌, ◌++◌}
use Rattle.std.specs.Prelude.{slice_index}
use Rattle.std.specs.List.{filter, flat_map, range_with_len}
use Rattle.flat_core.specs.Updates.{is_running_update}
use Rattle.trace_run.specs.Statistics.{update_line}
use Rattle.trace_run.proofs.statistics.print_updates.Given as goal

abbrev pub invariant-loop-number : goal.invariant-loop-number
invariant-loop-number l =
    l.out ≡ l.initial.out ++ flat_map (λ u. update_line l.flat u (slice_index l.monitor.engine.ledger u)) (filter (is_running_update l.flat) (range_with_len 0 l.number))
