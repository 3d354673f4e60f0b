-- What the reader of a trace and the engine make of its lines together.
use Rattle.std.specs.Prelude.{◌≡◌, ℕ, ◌≤◌, ◌+◌, max, Bool, true, false, List, ◌++◌, Some}
use Rattle.flat_core.specs.inner.BoundLaws.{AreFrom}
use Rattle.flat_core.specs.Case.{Streams}
use Rattle.flat_core.specs.Ending.{EndsAtBound}
use Rattle.flat_core.specs.Line.{Line, inputs_of, last_time}
use Rattle.flat_core.specs.Solution.{Solves}
use Rattle.flat_core.specs.System.{System}
use Rattle.flat_core.specs.Text.{due_text}
use Rattle.monitor_run.specs.declared.monitor.Stop.{Stop}
use Rattle.monitor_run.specs.inner.State as engine
use Rattle.monitor_run.specs.inner.Written.{HasWritten}
use Rattle.trace_reader.specs.Closed.{closed_below}
use Rattle.trace_reader.specs.inner.Reader.{Reader}
use Rattle.trace_reader.specs.Reading.{Reading, reading}
use Rattle.trace_reader.specs.inner.Reads.{Reads, IsAllOf}
use Rattle.trace_monitor.specs.declared.halt.Halt.{Halt}
use Rattle.trace_monitor.specs.declared.halt.Halt.TheVariants as halt
use Rattle.trace_monitor.specs.inner.Kept.{events_of}
use Rattle.trace_monitor.specs.inner.Run.{CountsSo, HasCountedTo, HasLines, StopsSo}

-- the bytes that were fed of a trace, whether it has ended, and how it is read
pub record Fed : Type 0 where
  pub strict : Bool
  pub limit : ℕ
  pub bytes : List ℕ
  pub ended : Bool

abbrev pub reading_of : System → Fed → Reading
reading_of s x = reading s x.strict x.limit x.bytes x.ended

-- the reader has given these lines of what was fed, and the engine has taken them
pub record HasRead (r : Reader) (e : engine.State) (last : ℕ) (x : Fed) (lines : List Line) (text : List ℕ) : Type 0 where
  pub reads : Reads r e.system x.strict x.limit x.bytes lines x.ended
  pub last_is : last ≡ last_time lines
  pub has : HasLines e lines text

-- why no further line is taken after these
abbrev pub Halts : Reading → List Line → Bool → Halt → Type 0
Halts r lines ended halt.More = IsAllOf r lines × (ended ≡ false)
Halts r lines ended halt.End = IsAllOf r lines × (ended ≡ true)
Halts r lines ended (halt.Refused f) = r ≡ record { lines = lines; refused = Some f }

-- further lines were taken
pub record HasReadOn (r : Reader) (old new : engine.State) (last : ℕ)
    (x : Fed) (lines : List Line) (text before after : List ℕ) : Type 0 where
  pub more : List Line
  pub added : List ℕ
  pub after_is : after ≡ before ++ added
  pub system_is : new.system ≡ old.system
  pub limit_is : new.limit ≡ old.limit
  pub read : HasRead r new last x (lines ++ more) (text ++ added)

-- all lines up to a halt
pub record HasReadAll (r : Reader) (old new : engine.State) (last : ℕ)
    (x : Fed) (lines : List Line) (text before after : List ℕ) (by : Halt) : Type 0 where
  pub on : HasReadOn r old new last x lines text before after
  pub halts : Halts (reading_of old.system x) (lines ++ on.more) x.ended by

-- The engine stopped at an instant below a time, at which no earlier line is left, and which the trace closes.
pub record HasStoppedIn (old new : engine.State) (x : Fed) (until : ℕ) (text before after : List ℕ) (why : Stop) : Type 0 where
  pub taken : List Line
  pub more : List Line
  pub lines_are : (reading_of old.system x).lines ≡ taken ++ more
  pub time : ℕ
  pub later : AreFrom time more
  pub closed : time ≤ closed_below (reading_of old.system x) until x.ended
  pub added : List ℕ
  pub after_is : after ≡ before ++ added
  pub stops : StopsSo old.system (events_of taken) time old.limit (text ++ added) why
  pub counts : CountsSo new old.system (events_of taken) time why

-- the times below this are closed at a halt after lines of which the last one has this time
abbrev pub bound_at : Halt → ℕ → ℕ → ℕ
bound_at halt.End last until = max last until + 1
bound_at _ last until = last

-- no further line is taken, and all instants at closed times have run
pub record HasRunAll (r : Reader) (old new : engine.State) (last until : ℕ)
    (x : Fed) (lines : List Line) (text before after : List ℕ) (by : Halt) : Type 0 where
  pub more : List Line
  pub added : List ℕ
  pub after_is : after ≡ before ++ added
  pub system_is : new.system ≡ old.system
  pub limit_is : new.limit ≡ old.limit
  pub reads : Reads r old.system x.strict x.limit x.bytes (lines ++ more) x.ended
  pub last_is : last ≡ last_time (lines ++ more)
  pub halts : Halts (reading_of old.system x) (lines ++ more) x.ended by
  pub bound_is : new.bound ≡ bound_at by (last_time (lines ++ more)) until
  pub written : HasWritten new (events_of (lines ++ more)) (text ++ added)
  pub counts : HasCountedTo new old.system (events_of (lines ++ more)) new.bound new.bound
  pub ends : (w : Streams) → Solves old.system (inputs_of (events_of (lines ++ more))) new.bound w
      → (text ++ added ≡ due_text old.system (events_of (lines ++ more)) w new.bound old.limit)
      × EndsAtBound old.system (events_of (lines ++ more)) w new.bound old.limit
