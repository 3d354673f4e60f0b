-- Which times are closed.
use Rattle.std.specs.Prelude.{ℕ, ◌+◌, max, ◌&&◌, Bool, if◌then◌else◌, is_none}
use Rattle.flat_core.specs.Line.{last_time}
use Rattle.trace_reader.specs.Reading.{Reading}

-- The times below this bound are closed: those below the last line's, or below 0 where there is none. With the end of the
-- trace, where no line is refused, the last line's time too, and the times up to `until` where that is greater.
abbrev pub closed_below : Reading → ℕ → Bool → ℕ
closed_below reading until ended =
    if ended && is_none reading.refused then max (last_time reading.lines) until + 1 else last_time reading.lines
