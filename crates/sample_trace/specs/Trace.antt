-- The sample trace: at each time from 1 on the input i has an event, whose value is the time modulo 1,000.
use Rattle.std.specs.Prelude.{ℕ, ◌%◌, List, ◌++◌, codes}
use Rattle.std.specs.Fmt.{decimal}
use Rattle.std.specs.List.{flat_map, range_with_len}

-- the line of a time
unfoldable pub line_text : ℕ → List ℕ
line_text time = decimal time ++ (codes ": i = " ++ (decimal (time % 1000) ++ codes "\n"))

-- no line has more bytes
abbrev pub most_line : ℕ
most_line = 30

-- the lines of so many times, from one on
abbrev pub lines_text : ℕ → ℕ → List ℕ
lines_text from count = flat_map line_text (range_with_len from count)

-- the trace with so many lines
abbrev pub trace_text : ℕ → List ℕ
trace_text count = lines_text 1 count
