use Rattle.std.proofs.Common.{◌≡◌, ◌-◌}
use Rattle.state_snapshot.specs.inner.Reading.{entry_at, items_at}
use Rattle.state_snapshot.proofs.Loop.{with_front}
use Rattle.state_snapshot.proofs.cells.read_entries.Given as goal

abbrev pub invariant-loop : goal.invariant-loop
invariant-loop l = with_front l.entries (items_at (entry_at l.key l.of) (l.count - l.counter) l.rest) ≡ items_at (entry_at l.key l.of) l.count l.bytes
