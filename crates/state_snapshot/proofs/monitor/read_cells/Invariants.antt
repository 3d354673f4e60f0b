use Rattle.std.proofs.Common.{◌≡◌, drop}
use Rattle.state_snapshot.specs.inner.Reading.{cells_at}
use Rattle.state_snapshot.proofs.Loop.{with_front}
use Rattle.state_snapshot.proofs.monitor.read_cells.Given as goal

abbrev pub invariant-loop-of : goal.invariant-loop-of
invariant-loop-of l = with_front l.cells (cells_at (drop l.of-index l.types) l.rest) ≡ cells_at l.types l.bytes
