-- What a reader keeps, as a state apart from it.
use Rattle.std.specs.Prelude.{◌≡◌, ℕ, ◌<◌, ◌≤◌, ◌^◌, Bool, false, List, length, None, IfSome}
use Rattle.flat_core.specs.Line.{Line, last_time}
use Rattle.flat_core.specs.Members.{is_in}
use Rattle.flat_core.specs.System.{System}
use Rattle.trace_reader.specs.declared.limits.TheConstants.{MOST_LINE_BYTES}
use Rattle.trace_reader.specs.declared.state.ReaderState.{ReaderState}
use Rattle.trace_reader.specs.Form.{split_once}
use Rattle.trace_reader.specs.Reading.{cut, had_event, is_among, reading}
use Rattle.trace_reader.specs.inner.LastTime.{last_read}
use Rattle.trace_reader.specs.inner.Reader.{Reader}

-- The state is what the reader keeps. Of the inputs that had an event at the last time it has which they are, and not in which order they
-- came.
pub record HasState (r : Reader) (st : ReaderState) : Type 0 where
  pub taken : st.taken ≡ r.taken
  pub lines : st.lines ≡ r.count
  pub last : st.last ≡ r.last
  pub seen : (i : ℕ) → is_in st.seen i ≡ is_among r.seen i
  pub rest : st.rest ≡ r.unread

-- ---- which states a reader can go on from, with at most so many bytes; each of these can be decided

-- no more bytes were taken than may be
abbrev pub IsWithinLimit : ℕ → ReaderState → Type 0
IsWithinLimit limit st = st.taken ≤ limit

-- each whole line has taken a byte at least
abbrev pub HasFewLines : ReaderState → Type 0
HasFewLines st = st.lines ≤ st.taken

-- the rest is the beginning of one line, which is not too long, and was taken
pub record IsRest (st : ReaderState) : Type 0 where
  pub short : length st.rest ≤ MOST_LINE_BYTES
  pub one_line : split_once 10 st.rest ≡ None
  pub was_taken : length st.rest ≤ st.taken

-- the last time is one
abbrev pub HasTime : ReaderState → Type 0
HasTime st = IfSome st.last (λ t. t < 2 ^ 63)

pub record FitsReader (limit : ℕ) (st : ReaderState) : Type 0 where
  pub time : HasTime st
  pub within : IsWithinLimit limit st
  pub lines : HasFewLines st
  pub rest : IsRest st

-- ---- the state after some bytes

-- This is the state after these bytes, of which no line is refused: their number, how many whole lines they have, the last time, the inputs
-- with an event at it, and what stands after the last line's end.
pub record IsReaderAfter (s : System) (strict : Bool) (limit : ℕ) (bytes : List ℕ) (lines : List Line) (st : ReaderState) : Type 0 where
  pub accepted : reading s strict limit bytes false ≡ record { lines = lines; refused = None }
  pub taken : st.taken ≡ length bytes
  pub whole : st.lines ≡ length (cut bytes).0
  pub last : st.last ≡ last_read lines
  pub seen : (i : ℕ) → is_in st.seen i ≡ had_event lines (last_time lines) i
  pub rest : st.rest ≡ (cut bytes).1
