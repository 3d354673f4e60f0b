-- What solvers have at times, as streams.
use Rattle.std.specs.Prelude.{ℕ, List, [], Option, Some, None, nat_lt, if◌then◌else◌, slice_index_or}
use Rattle.flat_core.specs.Stream.{at}
use Rattle.flat_core.specs.Case.{Streams}
use Rattle.plain_solver.specs.declared.events.Moment.{Moment}
use Rattle.plain_solver.specs.inner.Moments.{stream_of}

-- the streams of all equations, as functions of time
abbrev pub streams_of : List (List Moment) → Streams
streams_of all i = at (stream_of (slice_index_or all i []))

-- the later of two times that may be there
abbrev pub later : Option ℕ → Option ℕ → Option ℕ
later None q = q
later (Some a) None = Some a
later (Some a) (Some b) = if nat_lt a b then Some b else Some a
