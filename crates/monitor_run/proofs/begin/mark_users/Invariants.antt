use Rattle.std.proofs.Common.{◌≡◌, length, take}
use Rattle.monitor_run.specs.inner.Visits.{AreMarked}
use Rattle.monitor_run.proofs.begin.mark_users.Given as goal

abbrev pub invariant-loop-id : goal.invariant-loop-id
invariant-loop-id l = record {
  size : length l.agenda ≡ length l.fn.agenda;
  marked : AreMarked l.uses (take l.id-index l.filled) l.agenda;
}
