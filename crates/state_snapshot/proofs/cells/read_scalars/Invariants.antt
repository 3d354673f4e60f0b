use Rattle.std.proofs.Common.{◌≡◌, ◌-◌}
use Rattle.state_snapshot.specs.inner.Reading.{items_at, scalar_at}
use Rattle.state_snapshot.proofs.Loop.{with_front}
use Rattle.state_snapshot.proofs.cells.read_scalars.Given as goal

abbrev pub invariant-loop : goal.invariant-loop
invariant-loop l = with_front l.values (items_at (scalar_at l.of) (l.count - l.counter) l.rest) ≡ items_at (scalar_at l.of) l.count l.bytes
