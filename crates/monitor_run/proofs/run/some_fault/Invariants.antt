use Rattle.std.proofs.Common.{◌≡◌, drop}
use Rattle.std.specs.List.{list_any}
use Rattle.monitor_run.specs.inner.Here.{is_marked}
use Rattle.monitor_run.proofs.run.some_fault.Given as goal

abbrev pub invariant-loop-id : goal.invariant-loop-id
invariant-loop-id l = list_any (is_marked l.faulted) (drop l.id-index l.ids) ≡ list_any (is_marked l.faulted) l.ids
