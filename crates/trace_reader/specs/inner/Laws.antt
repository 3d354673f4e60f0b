-- What holds of every reading.
use Rattle.std.specs.Prelude.{◌≡◌, ◌≢◌, ◌≤◌, ◌<◌, ◌^◌, ◌↔◌, ◌++◌, ℕ, Bool, false, List, [], ◌∷◌, length, Option, Some, Result, IsTrue}
use Rattle.std.specs.List.{AllByRecursion}
use Rattle.tsl_value.specs.declared.scalar.Scalar.{Scalar}
use Rattle.tsl_value.specs.declared.scalar.Scalar.TheVariants as scalar
use Rattle.tsl_value.specs.View.{Plain, is_of}
use Rattle.tsl_value.specs.declared.limits.TheConstants.{MOST_TEXT_BYTES}
use Rattle.flat_core.specs.declared.equation.Equation.{Equation}
use Rattle.flat_core.specs.declared.equation.Op.TheVariants as op
use Rattle.flat_core.specs.System.{System, equation}
use Rattle.flat_core.specs.Line.{Line, IsSorted, last_time}
use Rattle.trace_reader.specs.declared.fault.TraceFault.{TraceFault}
use Rattle.trace_reader.specs.Reading.{had_event, judged, reading}
use Rattle.trace_reader.specs.inner.Spelling.{SpellsLine}
use Rattle.trace_reader.specs.Closed.{closed_below}

-- the first lines begin the others
pub record Begins (lines others : List Line) : Type 0 where
  pub rest : List Line
  pub is : others ≡ lines ++ rest

-- The lines of a beginning stay the first ones, whatever follows it and whether the trace ends there.
abbrev pub LinesStay : Type 0
LinesStay =
    (s : System) (strict : Bool) (limit : ℕ) (bytes more : List ℕ) (ended : Bool) →
    Begins (reading s strict limit bytes false).lines (reading s strict limit (bytes ++ more) ended).lines

-- A refusal in a beginning stays, and no line follows it.
abbrev pub RefusalStays : Type 0
RefusalStays =
    (s : System) (strict : Bool) (limit : ℕ) (bytes more : List ℕ) (ended : Bool) (f : TraceFault) →
    (reading s strict limit bytes false).refused ≡ Some f →
    reading s strict limit (bytes ++ more) ended ≡ reading s strict limit bytes false

-- The times never fall.
abbrev pub LinesAreSorted : Type 0
LinesAreSorted =
    (s : System) (strict : Bool) (limit : ℕ) (bytes : List ℕ) (ended : Bool) →
    IsSorted (reading s strict limit bytes ended).lines

-- the event is one of an input, of that input's type
pub record IsInputEvent (s : System) (i : ℕ) (v : Scalar) : Type 0 where
  pub at : Equation
  pub is : equation s i ≡ Some at
  pub input : at.op ≡ op.Input
  pub fits : IsTrue (is_of at.of (Plain v))

-- a line has a time, its event fits, and a text is short
pub record IsProperLine (s : System) (l : Line) : Type 0 where
  pub time : l.time < 2 ^ 63
  pub event : (i : ℕ) (v : Scalar) → l.event ≡ Some (i, v) → IsInputEvent s i v
  pub short : (i : ℕ) (text : List ℕ) → l.event ≡ Some (i, scalar.Text text) → length text ≤ MOST_TEXT_BYTES

abbrev pub LinesAreProper : Type 0
LinesAreProper =
    (s : System) (strict : Bool) (limit : ℕ) (bytes : List ℕ) (ended : Bool) →
    AllByRecursion (IsProperLine s) (reading s strict limit bytes ended).lines

-- no line of these has an event of this input at this time
abbrev pub NoneAt : ℕ → ℕ → List Line → Type 0
NoneAt t i lines = AllByRecursion (λ (l : Line). (v : Scalar) → l.time ≡ t → l.event ≡ Some (i, v) → ⊥) lines

-- an input has one event at a time at most
abbrev pub AreDistinct : List Line → Type 0
AreDistinct [] = Unit {0}
AreDistinct (l ∷ ls) = ((i : ℕ) (v : Scalar) → l.event ≡ Some (i, v) → NoneAt l.time i ls) × AreDistinct ls

abbrev pub EventsAreDistinct : Type 0
EventsAreDistinct =
    (s : System) (strict : Bool) (limit : ℕ) (bytes : List ℕ) (ended : Bool) →
    AreDistinct (reading s strict limit bytes ended).lines

-- Lines that follow a beginning's have no lower times than its last one.
abbrev pub LaterLinesAreLater : Type 0
LaterLinesAreLater =
    (s : System) (strict : Bool) (limit : ℕ) (bytes more : List ℕ) (ended : Bool) (rest : List Line) →
    (reading s strict limit (bytes ++ more) ended).lines ≡ (reading s strict limit bytes false).lines ++ rest →
    AllByRecursion (λ (l : Line). last_time (reading s strict limit bytes false).lines ≤ l.time) rest

-- The closed times stay closed.
abbrev pub ClosedStays : Type 0
ClosedStays =
    (s : System) (strict : Bool) (limit until : ℕ) (bytes more : List ℕ) (ended : Bool) →
    closed_below (reading s strict limit bytes false) until false ≤ closed_below (reading s strict limit (bytes ++ more) ended) until ended

-- What a line is judged to be by cuts is what it is by the relation.
abbrev pub SpelledAgrees : Type 0
SpelledAgrees =
    (s : System) (strict : Bool) (before : List Line) (n : ℕ) (line : List ℕ) (answer : Result (Option Line) TraceFault) →
    (judged s strict (had_event before) (last_time before) n line ≡ answer) ↔ SpellsLine s strict before n line answer

-- Equations after those of a system that are no inputs change nothing of what is read.
abbrev pub OthersLeaveReading : Type 0
OthersLeaveReading =
    (s t : System) (others : List Equation) (strict : Bool) (limit : ℕ) (bytes : List ℕ) (ended : Bool) →
    t.equations ≡ s.equations ++ others →
    AllByRecursion (λ (e : Equation). e.op ≢ op.Input) others →
    reading t strict limit bytes ended ≡ reading s strict limit bytes ended
