use Rattle.std.proofs.Common.{◌≡◌, drop}
use Rattle.state_snapshot.specs.inner.Reading.{kept_types, registers_at}
use Rattle.state_snapshot.proofs.Loop.{with_registers}
use Rattle.state_snapshot.proofs.monitor.read_registers.Given as goal

abbrev pub invariant-loop-id : goal.invariant-loop-id
invariant-loop-id l =
    with_registers l.registers (registers_at l.types.items (kept_types l.flat (drop l.id-index l.keeps)) l.rest) ≡ registers_at l.initial.types.items (kept_types l.flat l.keeps) l.bytes
