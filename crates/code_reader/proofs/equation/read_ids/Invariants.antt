use Rattle.std.proofs.Common.{◌≡◌, ◌-◌}
use Rattle.code_file.specs.inner.Reading.{items_at, number_at}
use Rattle.code_reader.proofs.Loop.{with_front}
use Rattle.code_reader.proofs.equation.read_ids.Given as goal

abbrev pub invariant-loop : goal.invariant-loop
invariant-loop l = with_front number_at l.args (items_at number_at (l.count - l.counter) l.rest) ≡ items_at number_at l.count l.bytes
