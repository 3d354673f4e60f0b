-- What the calls of a reader make of it, whatever it stands for. A reader that was made from a state which no run wrote may stand for no
-- trace.
use Rattle.std.specs.Prelude.{◌≡◌, ℕ, ◌+◌, ◌<◌, ◌≤◌, true, false, is_none, List, ◌++◌, length, take, Some, None, Result, Ok, Err, IfSome, slice_get, ⊤}
use Rattle.tsl_value.specs.declared.scalar.Scalar.{Scalar}
use Rattle.flat_core.specs.Line.{Line}
use Rattle.trace_reader.specs.declared.fault.TraceFault.{TraceFault}
use Rattle.trace_reader.specs.declared.fault.TraceFault.TheVariants as fault
use Rattle.trace_reader.specs.declared.next.Next.{Next}
use Rattle.trace_reader.specs.declared.next.Next.TheVariants as next
use Rattle.trace_reader.specs.Reading.{first_line}
use Rattle.trace_reader.specs.inner.Laws.{IsProperLine}
use Rattle.trace_reader.specs.inner.Reader.{AwaitsMore, HasLine, Passes, Reader, had_now, judged_at, last_counts, left_of, seen_with}
use Rattle.trace_reader.specs.inner.Reads.{IsPastLine, Keeps, after_all}

-- which inputs are read, how, and how much was fed
pub record AreAsSet (old new : Reader) : Type 0 where
  pub system : new.system ≡ old.system
  pub strict : new.strict ≡ old.strict
  pub limit : new.limit ≡ old.limit
  pub taken : new.taken ≡ old.taken

-- The first line that stands was given, as it is judged after the last time and the inputs that were seen: its time is not before that
-- one, its event is one of an input, of its type, and short, and no input has two at one time. It took a byte at least off what is kept.
-- From then on its time is the last one, and of the inputs seen only those at it stay.
pub record HasGiven (old new : Reader) (l : Line) : Type 0 where
  pub len : ℕ
  pub line : HasLine old len
  pub judged : judged_at old len ≡ Ok (Some l)
  pub past : IsPastLine old new len l
  pub proper : IsProperLine old.system l
  pub not_back : IfSome old.last (λ t. t ≤ l.time)
  pub fresh : (i : ℕ) (v : Scalar) → l.event ≡ Some (i, v) → had_now old.last old.seen l.time i ≡ false
  pub fewer : length new.unread < length old.unread
  pub as_set : AreAsSet old new
  pub last_is : new.last ≡ Some l.time
  pub seen_is : new.seen ≡ seen_with old.last old.seen l

-- no line stands, and what is kept of one is not refused
pub record IsAtRest (r : Reader) : Type 0 where
  pub no_line : first_line r.unread (last_counts r) ≡ None
  pub nothing : after_all r ≡ None
  pub accepted : r.refused ≡ None

-- why a fault is answered: it was before, or the first line that stands is refused for it, or, where none stands, what is kept of one is
pub data IsRefusedFor (r : Reader) (f : TraceFault) : Type 0 where
  was_refused : r.refused ≡ Some f → IsRefusedFor r f
  line_refused : (len : ℕ) → HasLine r len → judged_at r len ≡ Err f → IsRefusedFor r f
  rest_refused : first_line r.unread (last_counts r) ≡ None → after_all r ≡ Some f → IsRefusedFor r f

-- out of memory may come at any time
abbrev pub HasCause : Reader → TraceFault → Type 0
HasCause r fault.Memory = ⊤
HasCause r f = IsRefusedFor r f

-- what each answer says of the reader, and what it leaves
abbrev pub HasAnswered : Reader → Reader → Result Next TraceFault → Type 0
HasAnswered old new (Ok (next.Line l)) = HasGiven old new l
HasAnswered old new (Ok next.More) = (new ≡ old) × AwaitsMore new × (new.taken ≤ new.limit)
HasAnswered old new (Ok next.End) = (new ≡ old) × (old.ended ≡ true) × IsAtRest old
HasAnswered old new (Err f) = Keeps old new (Err f) × HasCause old f

-- A piece was fed: what is within the limit joins what is kept, and the lines at the front that say nothing are taken.
pub record HasFed (old new : Reader) (piece : List ℕ) : Type 0 where
  pub skipped : ℕ
  pub rest : List ℕ
  pub passes : Passes false (old.unread ++ take (left_of old) piece) skipped rest
  pub is : new
      ≡ record old {
        taken = old.taken + length piece;
        unread = rest;
        beyond = slice_get piece (left_of old);
        count = old.count + skipped;
      }

-- The trace has ended: what stands after the last line's end is a line from then on, unless a byte came beyond the limit, and the lines at
-- the front that say nothing are taken.
pub record HasEnded (old new : Reader) : Type 0 where
  pub skipped : ℕ
  pub rest : List ℕ
  pub passes : Passes (is_none old.beyond) old.unread skipped rest
  pub is : new ≡ record old { ended = true; unread = rest; count = old.count + skipped }
