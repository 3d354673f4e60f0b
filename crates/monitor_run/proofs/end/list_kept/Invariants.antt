use Rattle.std.proofs.Common.{◌≡◌, ◌++◌, drop}
use Rattle.monitor_run.specs.inner.Instant.{cells_in}
use Rattle.monitor_run.proofs.end.list_kept.Given as goal

abbrev pub invariant-loop-id : goal.invariant-loop-id
invariant-loop-id l = l.cells.items ++ cells_in l.last (drop l.id-index l.keeps) ≡ cells_in l.last l.keeps
