use Rattle.std.proofs.Common.{◌≡◌, ◌++◌, map, drop}
use Rattle.std.specs.FinMap as finite_map
use Rattle.monitor_run.proofs.saved.pending_times.Given as goal

abbrev pub invariant-loop-id : goal.invariant-loop-id
invariant-loop-id l = l.times ++ map (finite_map.get l.timers.times) (drop l.id-index l.delays) ≡ map (finite_map.get l.timers.times) l.delays
