-- The parts of a line that the code borrows.
use Rattle.std.specs.Option.{option_map}
use Rattle.trace_reader.specs.declared.form.LineParts.{LineParts as BorrowedParts}
use Rattle.trace_reader.specs.Form.{LineParts}

abbrev pub bytes_of : BorrowedParts → LineParts
bytes_of parts = record { time = parts.time.now; name = option_map (λ b. b.now) parts.name; value = option_map (λ b. b.now) parts.value }
