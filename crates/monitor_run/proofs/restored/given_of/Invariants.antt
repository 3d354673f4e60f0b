use Rattle.std.proofs.Common.{◌≡◌, ◌++◌, map, drop}
use Rattle.monitor_run.specs.inner.Given.{line_of}
use Rattle.monitor_run.proofs.restored.given_of.Given as goal

abbrev pub invariant-loop-event : goal.invariant-loop-event
invariant-loop-event l = l.given.items ++ map (λ e. line_of l.time e.equation e.value) (drop l.event-index l.events) ≡ map (λ e. line_of l.time e.equation e.value) l.events
