-- What every reader has, whatever it stands for.
use Rattle.std.proofs.Common.{◌≡◌, ◌≤◌, ℕ, ◌+◌, min, Bool, true, false, ◌&&◌, List, ◌++◌, length, take, drop, Option, None, sym, ap, ◌∙◌, arith, length-append, length-drop, length-take, inl, inr}
use Rattle.std.proofs.lemmas.Bool.{cases_lt}
use Rattle.std.proofs.lemmas.Option.{slice_get-get_or}
use Rattle.std.specs.Prelude.{is_none, slice_get}
use Rattle.std.specs.Option.{option_or}
use Rattle.tsl_value.specs.declared.limits.TheConstants.{MOST_TRACE_BYTES}
use Rattle.flat_core.specs.System.{System}
use Rattle.trace_reader.specs.declared.state.ReaderState.{ReaderState}
use Rattle.trace_reader.specs.Form.{split_once}
use Rattle.trace_reader.specs.Reading.{cut, first_line, lines_of}
use Rattle.trace_reader.specs.inner.Reader.{AwaitsMore, HasLine, IsSound, Passes, Reader, StopsAtLine, last_counts, left_of, one_if}
use Rattle.trace_reader.specs.inner.Saved.{FitsReader}
use Rattle.trace_reader.proofs.CountLemmas.{lines_added, lines_first, lines_one, lines_whole, passes_lines}
use Rattle.trace_reader.proofs.PassedLemmas.{cut_none}
use Rattle.trace_reader.proofs.StepLemmas.{passes_fewer, unended_stops}

-- where no byte comes after a place, it is not within them
none_past : (bytes : List ℕ) (n : ℕ) → slice_get bytes n ≡ None → length bytes ≤ n
none_past bytes n none = elim (cases_lt n (length bytes)) [
  | inl low ↦ let some = sym (slice_get-get_or bytes n 0 low) ∙ none in absurd (cc)
  | inr high ↦ omega arith
]

no_first : (rest : List ℕ) → split_once 10 rest ≡ None → first_line rest false ≡ None
no_first rest none = ap (λ o. option_or o None) none

-- no line stands where none ends
pub stops_open : (rest : List ℕ) → split_once 10 rest ≡ None → StopsAtLine rest false
stops_open rest none = λ line after first. let same = sym (no_first rest none) ∙ first in absurd (cc)

-- a reader that goes on from a state
abbrev pub resumed : System → Bool → ℕ → ReaderState → Reader
resumed s strict limit st =
    record { system = s; strict = strict; limit = limit; taken = st.taken; unread = st.rest; beyond = None; ended = false; count = st.lines; last = st.last; seen = st.seen; refused = None }

pub sound_resumed : (s : System) (strict : Bool) (limit : ℕ) (st : ReaderState) → limit ≤ MOST_TRACE_BYTES → FitsReader limit st → IsSound (resumed s strict limit st)
sound_resumed s strict limit st few fits =
    let within = fits.within in
    let lines = fits.lines in
    let kept = fits.rest.was_taken in
    let none : length (cut st.rest).0 ≡ 0 = ap (λ (c : List (List ℕ) × List ℕ). length c.0) (cut_none st.rest fits.rest.one_line) in
    let whole = lines_whole st.rest in
    record {
      few = few;
      within = λ none. within;
      kept = omega arith;
      lines = omega arith;
      stops = stops_open st.rest fits.rest.one_line;
    }

-- before the end of the trace the bytes after the last line's end are no line
open_counts : (r : Reader) → r.ended ≡ false → length (lines_of r.unread (last_counts r)) ≡ length (lines_of r.unread false)
open_counts r unended = λ k. length (lines_of r.unread (unended k && is_none r.beyond))

open_sum : (r : Reader) → r.ended ≡ false → IsSound r → r.count + length (cut r.unread).0 ≤ min r.taken r.limit
open_sum r unended sound =
    let lines = sound.lines in
    let none : one_if r.ended ≡ 0 = ap one_if unended in
    let same = open_counts r unended in
    let whole = lines_whole r.unread in
    omega arith

-- a piece was fed
pub sound_fed : (r : Reader) → IsSound r → AwaitsMore r → (piece unread rest : List ℕ) (fits skipped : ℕ) (beyond : Option ℕ) → fits ≡ min (length piece) (left_of r) → unread ≡ r.unread ++ take fits piece → beyond ≡ slice_get piece fits →
    Passes false unread skipped rest → StopsAtLine rest false → IsSound (record r { taken = r.taken + length piece; unread = rest; beyond = beyond; count = r.count + skipped })
sound_fed r sound awaits piece unread rest fits skipped beyond least is next passes stops =
    let within = sound.within awaits.within in
    let kept = sound.kept in
    let fewer = passes_fewer false unread skipped rest passes in
    let sizes = ap length is in
    let both = length-append r.unread (take fits piece) in
    let taken = length-take fits piece in
    let sum = open_sum r awaits.unended sound in
    let skips = passes_lines false unread skipped rest passes in
    let whole = lines_whole unread in
    let joined = ap (λ bytes. length (cut bytes).0) is in
    let added = lines_added r.unread (take fits piece) in
    let counts : length (lines_of rest (r.ended && is_none beyond)) ≡ length (lines_of rest false) = λ k. length (lines_of rest (awaits.unended k && is_none beyond)) in
    let none : one_if r.ended ≡ 0 = ap one_if awaits.unended in
    record {
      few = sound.few;
      within = λ nothing. let all = none_past piece fits (sym next ∙ nothing) in omega arith;
      kept = omega arith;
      lines = omega arith;
      stops = unended_stops rest r.ended beyond awaits.unended stops;
    }

-- the trace has ended
pub sound_ended : (r : Reader) → IsSound r → r.ended ≡ false → (rest : List ℕ) (skipped : ℕ) → Passes (is_none r.beyond) r.unread skipped rest → StopsAtLine rest (is_none r.beyond) →
    IsSound (record r { ended = true; unread = rest; count = r.count + skipped })
sound_ended r sound unended rest skipped passes stops =
    let kept = sound.kept in
    let fewer = passes_fewer (is_none r.beyond) r.unread skipped rest passes in
    let sum = open_sum r unended sound in
    let skips = passes_lines (is_none r.beyond) r.unread skipped rest passes in
    let one = lines_one r.unread (is_none r.beyond) in
    let whole = lines_whole r.unread in
    record {
      few = sound.few;
      within = sound.within;
      kept = omega arith;
      lines = omega arith;
      stops = stops;
    }

-- a line was given
pub sound_past : (r : Reader) → IsSound r → (len : ℕ) → HasLine r len → (rest : List ℕ) (skipped : ℕ) (last : Option ℕ) (seen : List ℕ) → Passes (last_counts r) (drop (len + 1) r.unread) skipped rest → StopsAtLine rest (last_counts r) →
    IsSound (record r { unread = rest; count = r.count + 1 + skipped; last = last; seen = seen })
sound_past r sound len has rest skipped last seen passes stops =
    let kept = sound.kept in
    let fewer = passes_fewer (last_counts r) (drop (len + 1) r.unread) skipped rest passes in
    let shorter = length-drop (len + 1) r.unread in
    let lines = sound.lines in
    let skips = passes_lines (last_counts r) (drop (len + 1) r.unread) skipped rest passes in
    let first = lines_first r.unread (last_counts r) len has in
    record {
      few = sound.few;
      within = sound.within;
      kept = omega arith;
      lines = omega arith;
      stops = stops;
    }
