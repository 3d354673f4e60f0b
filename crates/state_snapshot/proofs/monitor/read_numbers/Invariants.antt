use Rattle.std.proofs.Common.{◌≡◌, ◌-◌}
use Rattle.state_snapshot.specs.inner.Reading.{items_at, number_at}
use Rattle.state_snapshot.proofs.Loop.{with_front}
use Rattle.state_snapshot.proofs.monitor.read_numbers.Given as goal

abbrev pub invariant-loop : goal.invariant-loop
invariant-loop l = with_front l.numbers (items_at number_at (l.count - l.counter) l.rest) ≡ items_at number_at l.count l.bytes
