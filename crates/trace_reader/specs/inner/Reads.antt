-- For which traces and lines a reader stands, and what its answers say of them.
use Rattle.std.specs.Prelude.{◌≡◌, ℕ, ◌+◌, Bool, true, false, List, [], ◌∷◌, ◌++◌, length, take, Option, Some, None, slice_get, Result, Ok, Err, ⊤}
use Rattle.std.specs.Option.{option_or}
use Rattle.flat_core.specs.System.{System}
use Rattle.flat_core.specs.Line.{Line, last_time}
use Rattle.trace_reader.specs.declared.fault.TraceFault.{TraceFault}
use Rattle.trace_reader.specs.declared.fault.TraceFault.TheVariants as fault
use Rattle.trace_reader.specs.declared.next.Next.{Next}
use Rattle.trace_reader.specs.declared.next.Next.TheVariants as next
use Rattle.trace_reader.specs.declared.next.Rest.{Rest}
use Rattle.trace_reader.specs.declared.next.Rest.TheVariants as rest
use Rattle.trace_reader.specs.Reading.{Reading, cut, had_event, is_among, reading, read_on, unfinished}
use Rattle.trace_reader.specs.inner.LastTime.{last_read}
use Rattle.trace_reader.specs.inner.Reader.{Reader, Passes, at_fault, judged_at, last_counts, left_of, passed, past_line}

-- the reading of what follows these lines
abbrev pub after : List Line → Reading → Reading
after given r = record { lines = given ++ r.lines; refused = r.refused }

-- After the end nothing more comes.
abbrev pub MayCome : Bool → List ℕ → Bool → Type 0
MayCome true more ended = (more ≡ []) × (ended ≡ true)
MayCome false more ended = ⊤

-- What was taken off the front of the bytes within the limit are whole lines, as many as were counted.
pub record HasPassed (limit count : ℕ) (unread fed : List ℕ) : Type 0 where
  pub past : List ℕ
  pub parts : take limit fed ≡ past ++ unread
  pub whole : (cut past).1 ≡ []
  pub counted : length (cut past).0 ≡ count

-- The reader was fed these bytes and has given these lines: whatever comes, the trace reads as these lines, and then as what is
-- kept and what comes read after them.
pub record Reads (r : Reader) (s : System) (strict : Bool) (limit : ℕ) (fed : List ℕ) (given : List Line) (ended : Bool) : Type 0 where
  pub system : r.system ≡ s
  pub strict_is : r.strict ≡ strict
  pub limit_is : r.limit ≡ limit
  pub taken_is : r.taken ≡ length fed
  pub ended_is : r.ended ≡ ended
  pub last : r.last ≡ last_read given
  pub seen : (i : ℕ) → is_among r.seen i ≡ had_event given (last_time given) i
  pub passed : ended ≡ false → HasPassed limit r.count r.unread fed
  pub goes_on :
      (more : List ℕ) (e : Bool) →
      MayCome ended more e →
      reading s strict limit (fed ++ more) e
      ≡ after given (read_on s strict given (r.count + 1) (r.unread ++ take (left_of r) more)
      (option_or r.beyond (slice_get more (left_of r))) e)
  pub refused : (f : TraceFault) → r.refused ≡ Some f → reading s strict limit fed ended ≡ record { lines = given; refused = Some f }

-- these lines are all of the reading, and nothing is refused
abbrev pub IsAllOf : Reading → List Line → Type 0
IsAllOf r given = r ≡ record { lines = given; refused = None }

-- What an answer says of the reading, after the lines that were given before. Out of memory says nothing.
abbrev pub SaysNext : Reading → List Line → Bool → Result Next TraceFault → Type 0
SaysNext r given ended (Ok (next.Line l)) = (rest : List Line) × (r.lines ≡ given ++ l ∷ rest)
SaysNext r given ended (Ok next.More) = IsAllOf r given × (ended ≡ false)
SaysNext r given ended (Ok next.End) = IsAllOf r given × (ended ≡ true)
SaysNext r given ended (Err fault.Memory) = ⊤
SaysNext r given ended (Err f) = r ≡ record { lines = given; refused = Some f }

-- the line that an answer gives
abbrev pub lines_in : Result Next TraceFault → List Line
lines_in (Ok (next.Line l)) = l ∷ []
lines_in _ = []

-- the reader after a line and the skipped lines that follow it
pub record IsPastLine (old new : Reader) (len : ℕ) (l : Line) : Type 0 where
  pub skipped : ℕ
  pub rest : List ℕ
  pub passes : Passes (last_counts old) (past_line old len l).unread skipped rest
  pub is : new ≡ passed (past_line old len l) skipped rest

-- The first line that stands is given, or refused.
abbrev pub TakesLine : Reader → Reader → ℕ → Result Next TraceFault → Type 0
TakesLine old new len (Ok (next.Line l)) = (judged_at old len ≡ Ok (Some l)) × IsPastLine old new len l
TakesLine old new len (Ok _) = ⊥
TakesLine old new len (Err fault.Memory) = new ≡ old
TakesLine old new len (Err f) = (judged_at old len ≡ Err f) × (new ≡ at_fault old f)

-- what is refused where no line stands
abbrev pub after_all : Reader → Option TraceFault
after_all r = unfinished r.beyond (r.count + 1) r.unread

-- No line stands.
abbrev pub Rests : Reader → Reader → Result Next TraceFault → Type 0
Rests old new (Ok (next.Line l)) = ⊥
Rests old new (Ok next.More) = (after_all old ≡ None) × (old.beyond ≡ None) × (old.ended ≡ false) × (new ≡ old)
Rests old new (Ok next.End) = (after_all old ≡ None) × (old.ended ≡ true) × (new ≡ old)
Rests old new (Err fault.Memory) = new ≡ old
Rests old new (Err f) = (after_all old ≡ Some f) × (new ≡ at_fault old f)

-- What stands after an error: the reader as it was, but for the fault that is kept. Out of memory, none is.
abbrev pub Keeps : Reader → Reader → Result Next TraceFault → Type 0
Keeps old new (Ok _) = ⊤
Keeps old new (Err fault.Memory) = new ≡ old
Keeps old new (Err f) = new ≡ at_fault old f

abbrev pub AnswersFault : TraceFault → Result Next TraceFault → Type 0
AnswersFault f (Err fault.Memory) = ⊤
AnswersFault f result = result ≡ Err f

pub record AnswersAgain (old new : Reader) (result : Result Next TraceFault) : Type 0 where
  pub kept : Keeps old new result
  pub again : (f : TraceFault) → old.refused ≡ Some f → AnswersFault f result × (new ≡ old)

abbrev pub IfLine : Result Next TraceFault → Type 0 → Type 0
IfLine (Ok (next.Line l)) P = P
IfLine _ P = ⊤

abbrev pub IfMore : Result Next TraceFault → Type 0 → Type 0
IfMore (Ok next.More) P = P
IfMore _ P = ⊤

-- The same of an answer that comes once all lines were given that stand.
abbrev pub SaysRest : Reading → List Line → Bool → Result Rest TraceFault → Type 0
SaysRest r given ended (Ok rest.More) = IsAllOf r given × (ended ≡ false)
SaysRest r given ended (Ok rest.End) = IsAllOf r given × (ended ≡ true)
SaysRest r given ended (Err fault.Memory) = ⊤
SaysRest r given ended (Err f) = r ≡ record { lines = given; refused = Some f }

abbrev pub IfRestMore : Result Rest TraceFault → Type 0 → Type 0
IfRestMore (Ok rest.More) P = P
IfRestMore _ P = ⊤

-- Lines were appended to others: with them the reader has given all that stand, up to the line that is refused, or until memory ran out.
pub record Gathers (new : Reader) (s : System) (strict : Bool) (limit : ℕ) (fed : List ℕ) (given : List Line) (ended : Bool)
    (before gathered : List Line) (result : Result Rest TraceFault) : Type 0 where
  pub added : List Line
  pub grew : gathered ≡ before ++ added
  pub reads : Reads new s strict limit fed (given ++ added) ended
  pub says : SaysRest (reading s strict limit fed ended) (given ++ added) ended result
