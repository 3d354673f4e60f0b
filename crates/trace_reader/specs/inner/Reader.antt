-- What a reader keeps.
use Rattle.std.specs.Prelude.{◌≡◌, ◌++◌, [], ◌&&◌, ℕ, ◌+◌, ◌-◌, ◌≤◌, min, Bool, true, false, if◌then◌else◌, is_none, List, length, Option, Some}
use Rattle.std.specs.Prelude.{None, Result, take, drop}
use Rattle.flat_core.specs.Pending.{option_is}
use Rattle.trace_reader.specs.declared.limits.TheConstants.{MOST_LINE_BYTES}
use Rattle.tsl_value.specs.declared.limits.TheConstants.{MOST_TRACE_BYTES}
use Rattle.flat_core.specs.System.{System}
use Rattle.flat_core.specs.Line.{Line}
use Rattle.trace_reader.specs.declared.fault.TraceFault.{TraceFault}
use Rattle.trace_reader.specs.Form.{content, is_long, says_nothing, split_once}
use Rattle.trace_reader.specs.inner.LastTime.{or_zero}
use Rattle.trace_reader.specs.Reading.{first_line, input_in, is_among, judged, lines_of}

pub record Reader : Type 0 where
  pub system : System
  pub strict : Bool
  -- as many bytes are read at most, and so many were fed
  pub limit : ℕ
  pub taken : ℕ
  -- the bytes within the limit that were fed and are not of a line that was read
  pub unread : List ℕ
  -- the first byte beyond the limit, where it was fed
  pub beyond : Option ℕ
  pub ended : Bool
  -- the number of lines that were read, the time of the last one that has a time, if there is one, and the inputs that had an event at it
  pub count : ℕ
  pub last : Option ℕ
  pub seen : List ℕ
  -- the fault that was answered
  pub refused : Option TraceFault

-- how many bytes more are within the limit
abbrev pub left_of : Reader → ℕ
left_of r = r.limit - r.taken

-- All that was fed is read, and more may come: no line ends in what is kept, which is not too long for one, nothing is refused, and the
-- trace has not ended.
pub record AwaitsMore (r : Reader) : Type 0 where
  pub no_line : split_once 10 r.unread ≡ None
  pub short : length r.unread ≤ MOST_LINE_BYTES
  pub within : r.beyond ≡ None
  pub unended : r.ended ≡ false
  pub accepted : r.refused ≡ None

-- bytes after the last line's end are a line
abbrev pub last_counts : Reader → Bool
last_counts r = r.ended && is_none r.beyond

-- the first line that stands in what is kept ends here
abbrev pub IsFirstLine : List ℕ → Bool → ℕ → Type 0
IsFirstLine bytes ended len = first_line bytes ended ≡ Some (take len bytes, drop (len + 1) bytes)

abbrev pub HasLine : Reader → ℕ → Type 0
HasLine r len = IsFirstLine r.unread (last_counts r) len

-- the inputs that had an event at a time, from the last one on
abbrev pub had_now : Option ℕ → List ℕ → ℕ → ℕ → Bool
had_now last seen t i = option_is t last && is_among seen i

-- what that line says, or why it is refused
abbrev pub judged_at : Reader → ℕ → Result (Option Line) TraceFault
judged_at r len = judged r.system r.strict (had_now r.last r.seen) (or_zero r.last) (r.count + 1) (take len r.unread)

-- the inputs with an event at the last time, with a line more
abbrev pub seen_with : Option ℕ → List ℕ → Line → List ℕ
seen_with last seen l = (if option_is l.time last then seen else []) ++ input_in l.event

-- the reader after a line, and after a fault
abbrev pub past_line : Reader → ℕ → Line → Reader
past_line r len l =
    record r { unread = drop (len + 1) r.unread; count = r.count + 1; last = Some l.time; seen = seen_with r.last r.seen l }

abbrev pub at_fault : Reader → TraceFault → Reader
at_fault r f = record r { refused = Some f }

-- a line that is skipped
abbrev pub is_skipped : List ℕ → Bool
is_skipped line = if is_long (length line) then false else says_nothing (content line)

-- So many lines at the front are skipped, and these bytes follow them.
pub data Passes (ended : Bool) (bytes : List ℕ) : ℕ → List ℕ → Type 0 where
  none : Passes ended bytes 0 bytes
  more :
      {count : ℕ} {rest : List ℕ} (len : ℕ) →
      Passes ended bytes count rest →
      IsFirstLine rest ended len →
      is_skipped (take len rest) ≡ true →
      Passes ended bytes (count + 1) (drop (len + 1) rest)

-- The first line that stands is not skipped.
abbrev pub StopsAtLine : List ℕ → Bool → Type 0
StopsAtLine bytes ended = (line rest : List ℕ) → first_line bytes ended ≡ Some (line, rest) → is_skipped line ≡ false

-- the reader after lines that are skipped
abbrev pub passed : Reader → ℕ → List ℕ → Reader
passed r count rest = record r { unread = rest; count = r.count + count }

-- one, where something is so
abbrev pub one_if : Bool → ℕ
one_if true = 1
one_if false = 0

-- What every reader has: no more was taken than the limit, unless a byte beyond it was fed. What is kept was taken within the limit, and so
-- were the lines that were read, with those that still stand. At the end of the trace one more may stand, which has no end. The first line
-- that stands is not skipped.
pub record IsSound (r : Reader) : Type 0 where
  pub few : r.limit ≤ MOST_TRACE_BYTES
  pub within : r.beyond ≡ None → r.taken ≤ r.limit
  pub kept : length r.unread ≤ min r.taken r.limit
  pub lines : r.count + length (lines_of r.unread (last_counts r)) ≤ min r.taken r.limit + one_if r.ended
  pub stops : StopsAtLine r.unread (last_counts r)
