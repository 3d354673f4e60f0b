use Rattle.std.proofs.Common.{◌≡◌, ◌++◌, drop}
use Rattle.event_why.specs.inner.Here.{events_in}
use Rattle.event_why.proofs.row.values_in.Given as goal

abbrev pub invariant-loop-id : goal.invariant-loop-id
invariant-loop-id l = l.values.items ++ events_in l.row (drop l.id-index l.ids) ≡ events_in l.row l.ids
