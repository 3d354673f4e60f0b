use Rattle.std.proofs.Common.{◌≡◌, ◌-◌}
use Rattle.code_file.specs.inner.Reading.{items_at, output_at}
use Rattle.code_reader.proofs.Loop.{with_front}
use Rattle.code_reader.proofs.parts.read_outputs.Given as goal

abbrev pub invariant-loop : goal.invariant-loop
invariant-loop l = with_front output_at l.outputs.items (items_at output_at (l.count - l.counter) l.rest) ≡ items_at output_at l.count l.bytes
