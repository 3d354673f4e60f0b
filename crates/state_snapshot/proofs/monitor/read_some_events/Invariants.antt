use Rattle.std.proofs.Common.{◌≡◌, ◌-◌}
use Rattle.state_snapshot.specs.inner.Reading.{event_at, items_at}
use Rattle.state_snapshot.proofs.Loop.{with_front}
use Rattle.state_snapshot.proofs.monitor.read_some_events.Given as goal

abbrev pub invariant-loop : goal.invariant-loop
invariant-loop l = with_front l.events (items_at (event_at l.flat) (l.count - l.counter) l.rest) ≡ items_at (event_at l.flat) l.count l.bytes
