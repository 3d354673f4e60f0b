use Rattle.std.proofs.Common.{◌≡◌, ◌∷◌, drop}
use Rattle.state_snapshot.specs.inner.Reading.{is_event_below, rise_by}
use Rattle.state_snapshot.proofs.monitor.are_rising.Given as goal

abbrev pub invariant-loop-event : goal.invariant-loop-event
invariant-loop-event l = rise_by is_event_below (l.last ∷ drop l.event-index l.others) ≡ rise_by is_event_below l.events
