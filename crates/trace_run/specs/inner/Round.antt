-- What one round of a run over a trace does: a piece is read, the monitor takes it, and the text that it adds is written.
use Rattle.std.specs.Prelude.{◌≡◌, ℕ, ◌+◌, ◌≤◌, Bool, true, false, ◌&&◌, List, [], ◌∷◌, ◌++◌, length, Option, Some, None, Result, Ok, Err}
use Rattle.flat_core.specs.System.{System}
use Rattle.trace_monitor.specs.Counted.{HasCounted}
use Rattle.trace_monitor.specs.declared.ending.RunEnding.{RunEnding}
use Rattle.trace_monitor.specs.declared.ending.RunEnding.TheVariants as run
use Rattle.trace_monitor.specs.declared.options.Options.{Options}
use Rattle.trace_monitor.specs.Due.{IsDue}
use Rattle.trace_monitor.specs.Next.{IsNext, is_nothing}
use Rattle.trace_monitor.specs.inner.Kept.{Kept}
use Rattle.trace_monitor.specs.inner.State.{State}
use Rattle.trace_monitor.specs.inner.Waits.{Waits, WaitsAgain}
use Rattle.trace_reader.specs.declared.limits.TheConstants.{MOST_PIECE_BYTES}
use Rattle.tsl_world.specs.Begins.{Begins}
use Rattle.tsl_world.specs.declared.broken.Broken.{Broken}
use Rattle.tsl_world.specs.declared.outside.Channel.TheVariants.{Out}
use Rattle.tsl_world.specs.declared.outside.Did.{Did}
use Rattle.tsl_world.specs.declared.outside.Did.TheVariants.{NotTook, Took}
use Rattle.tsl_world.specs.declared.outside.Slot.TheVariants.{Trace}
use Rattle.tsl_world.specs.Journal.{given, Each, IsDone}
use Rattle.trace_run.specs.Effects.{HasWatched, KeepsAll, StandsAfter, Watched, Writes}

-- what a monitor makes of a piece, whatever it stands for
pub record Advanced (s : System) (o : Options) (old new : State) (piece out : List ℕ) (next : Option RunEnding) : Type 0 where
  pub due : (fed text : List ℕ) → Kept old fed → IsDue s o fed false text → IsDue s o (fed ++ piece) (is_nothing piece) (text ++ out)
  pub stands : (fed : List ℕ) → Kept old fed → IsNext s o (fed ++ piece) (is_nothing piece) next
  pub kept : next ≡ None → (fed : List ℕ) → Kept old fed → Kept new (fed ++ piece)
  pub counted : (how : RunEnding) → next ≡ Some how → (fed : List ℕ) → Kept old fed
      → HasCounted s o (fed ++ piece) (is_nothing piece) new.engine how

-- what an engine has counted, whatever its monitor stands for
abbrev pub HasCountedAll : System → Options → State → Type 0
HasCountedAll s o m = (fed : List ℕ) → Kept m fed → HasCounted s o fed false m.engine run.Done

-- two monitors run one code within the same limits
pub record AreAlike (old new : State) : Type 0 where
  pub system : new.system ≡ old.system
  pub options : new.options ≡ old.options
  pub engine : new.engine.system ≡ old.engine.system
  pub set : new.engine.in_place ≡ old.engine.in_place
  pub order : new.engine.order ≡ old.engine.order

-- ---- a piece

-- how a monitor is that has taken a piece
pub record HasTaken (old new : State) (piece : List ℕ) (next : Option RunEnding) : Type 0 where
  pub alike : AreAlike old new
  pub goes_on : next ≡ None → WaitsAgain old new piece
  pub at_end : next ≡ Some run.Done → is_nothing piece ≡ true

-- it has taken the piece, and all that this adds was written
pub record Passed (old new : State) (piece : List ℕ) (next : Option RunEnding) (part : List Did) : Type 0 where
  pub out : List ℕ
  pub has_taken : HasTaken old new piece next
  pub advanced : Advanced old.system old.options old new piece out next
  pub writes : Writes Out part
  pub done : Each IsDone part
  pub whole : given Out part ≡ out

-- it has not taken the piece, or a write failed
pub data Stopped (old : State) (piece : List ℕ) : List Did → Type 0 where
  lost : Stopped old piece []
  unwritten : (new : State) (next : Option RunEnding) (out : List ℕ) (part : List Did)
      → Advanced old.system old.options old new piece out next → Writes Out part → Begins (given Out part) out → Stopped old piece part

abbrev pub Passes : State → State → List ℕ → Result (Option RunEnding) Broken → List Did → Type 0
Passes old new piece (Ok next) part = Passed old new piece next part
Passes old new piece (Err broken) part = Stopped old piece part

-- ---- a round

-- a piece that was read is given to the monitor as the end only where this is told
pub record IsRead (tells_end : Bool) (piece : List ℕ) : Type 0 where
  pub short : length piece ≤ MOST_PIECE_BYTES
  pub told : (tells_end && is_nothing piece) ≡ is_nothing piece

-- a monitor that goes on has taken a byte at least
pub record TakesMore (old new : State) : Type 0 where
  pub waits : Waits new
  pub more : old.reader.taken + 1 ≤ new.reader.taken

-- how a monitor is after a round
pub record HasTurned (old new : State) (tells_end : Bool) (next : Option RunEnding) : Type 0 where
  pub alike : AreAlike old new
  pub goes_on : next ≡ None → TakesMore old new
  pub waits : next ≡ Some run.Done → tells_end ≡ false → Waits new

-- the end of the trace was read and is not told, or a piece was taken
pub data Turned (old new : State) (tells_end : Bool) (next : Option RunEnding) : List Did → Type 0 where
  end_untold : tells_end ≡ false → new ≡ old → next ≡ Some run.Done → HasCountedAll old.system old.options old
      → Turned old new tells_end next (Took Trace [] ∷ [])
  passed : (piece : List ℕ) (part : List Did) → IsRead tells_end piece → Passed old new piece next part
      → Turned old new tells_end next (Took Trace piece ∷ part)

-- the read failed, or the piece was not taken, or a write failed
pub data Broke (old : State) (tells_end : Bool) : List Did → Type 0 where
  unread : Broke old tells_end (NotTook Trace ∷ [])
  cut_off : (piece : List ℕ) (part : List Did) → IsRead tells_end piece → Stopped old piece part
      → Broke old tells_end (Took Trace piece ∷ part)

abbrev pub Turns : State → State → Bool → Result (Option RunEnding) Broken → List Did → Type 0
Turns old new tells_end (Ok next) part = Turned old new tells_end next part
Turns old new tells_end (Err broken) part = Broke old tells_end part

-- ---- all rounds of a run that began with a monitor

-- what it did
abbrev pub HasGone : State → Bool → List Did → Type 0
HasGone first tells_end part = Watched first.system (StandsAfter first) tells_end first.reader.taken first.options.bytes part

-- and how it ended
pub record HasEnded (first new : State) (tells_end : Bool) (how : RunEnding) (part : List Did) : Type 0 where
  pub gone : HasGone first tells_end part
  pub ends : HasWatched first.system (StandsAfter first) tells_end new.engine how part
  pub keeps : KeepsAll first new tells_end how part

abbrev pub GoesTo : State → State → Bool → Result RunEnding Broken → List Did → Type 0
GoesTo first new tells_end (Ok how) part = HasEnded first new tells_end how part
GoesTo first new tells_end (Err broken) part = HasGone first tells_end part

-- how the monitor is then
pub record IsLeft (first new : State) (tells_end : Bool) (how : RunEnding) : Type 0 where
  pub alike : AreAlike first new
  pub waits : tells_end ≡ false → how ≡ run.Done → Waits new
