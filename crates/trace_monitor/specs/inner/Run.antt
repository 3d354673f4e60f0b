-- What the engine makes of lines.
use Rattle.std.specs.Prelude.{◌≡◌, ℕ, suc, ◌≤◌, ◌≢◌, List, ◌∷◌, [], ◌++◌, IsTrue, length, slice_index}
use Rattle.flat_core.specs.Case.{Streams}
use Rattle.flat_core.specs.Ending.{EndsInFault, EndsAtLimit, EndsAtBound}
use Rattle.flat_core.specs.Instant.{instants}
use Rattle.flat_core.specs.Line.{Line, inputs_of, last_time}
use Rattle.flat_core.specs.Solution.{Solves}
use Rattle.flat_core.specs.System.{System}
use Rattle.flat_core.specs.Text.{due_text}
use Rattle.monitor_run.specs.declared.monitor.Stop.{Stop}
use Rattle.monitor_run.specs.declared.monitor.Stop.TheVariants as stop
use Rattle.register_machine.specs.Copied.{copied}
use Rattle.flat_core.specs.Updates.{is_running_update}
use Rattle.monitor_run.specs.inner.Next.{IsIdle}
use Rattle.monitor_run.specs.inner.State as engine
use Rattle.monitor_run.specs.inner.Steps.{AreAsSet}
use Rattle.monitor_run.specs.inner.Written.{HasWritten}
use Rattle.trace_monitor.specs.inner.Kept.{events_of}

-- why no further instant of these lines runs below the bound: the text is due, and the run ends so
abbrev pub StopsSo : System → List Line → ℕ → ℕ → List ℕ → Stop → Type 0
StopsSo s lines bound limit text (stop.Fault t i kind) =
    (w : Streams)
    → Solves s (inputs_of lines) bound w
    → (text ≡ due_text s lines w bound limit) × EndsInFault s lines w bound limit t i kind
StopsSo s lines bound limit text (stop.Limit count t) =
    (count ≡ limit)
    × ((w : Streams)
    → Solves s (inputs_of lines) bound w
    → (text ≡ due_text s lines w bound limit) × EndsAtLimit s lines w bound limit t)
StopsSo s lines bound limit text stop.Memory = Unit {0}

-- for all streams that solve the system below the bound, as many instants have run as come before a time
pub record HasRanTo (e : engine.State) (s : System) (lines : List Line) (bound time : ℕ) : Type 0 where
  pub within : time ≤ bound
  pub ran : (z : Streams) → Solves s (inputs_of lines) bound z → e.ran ≡ length (instants s lines z time)

-- and updates have copied what they copy before a time
pub record HasCopiedTo (e : engine.State) (s : System) (lines : List Line) (bound time : ℕ) : Type 0 where
  pub ledger : (z : Streams)
      → Solves s (inputs_of lines) bound z
      → (u : ℕ)
      → IsTrue (is_running_update s u)
      → slice_index e.ledger u ≡ copied s e.in_place z u time

abbrev pub HasCountedTo : engine.State → System → List Line → ℕ → ℕ → Type 0
HasCountedTo e s lines bound time = HasRanTo e s lines bound time × HasCopiedTo e s lines bound time

-- what is counted at a stop: updates have copied at the instant of a fault too
abbrev pub CountsSo : engine.State → System → List Line → ℕ → Stop → Type 0
CountsSo e s lines bound (stop.Fault t i kind) = HasCopiedTo e s lines bound (suc t)
CountsSo e s lines bound (stop.Limit count t) = HasCountedTo e s lines bound t
CountsSo e s lines bound stop.Memory = Unit {0}

-- the engine whose times below a bound are closed
abbrev pub closed_to : engine.State → ℕ → engine.State
closed_to e bound = record e { bound = bound }

-- all instants below the bound have run, and their text was appended
pub record HasRunOut (old new : engine.State) (lines : List Line) (text before after : List ℕ) : Type 0 where
  pub added : List ℕ
  pub after_is : after ≡ before ++ added
  pub as_set : AreAsSet old new
  pub written : HasWritten new lines (text ++ added)
  pub idle : IsIdle new
  pub counts : HasCountedTo new old.system lines old.bound old.bound
  pub ends : (w : Streams)
      → Solves old.system (inputs_of lines) old.bound w
      → (text ++ added ≡ due_text old.system lines w old.bound old.limit) × EndsAtBound old.system lines w old.bound old.limit

-- the engine stopped before that
pub record HasStopped (old new : engine.State) (lines : List Line) (text before after : List ℕ) (why : Stop) : Type 0 where
  pub added : List ℕ
  pub after_is : why ≢ stop.Memory → after ≡ before ++ added
  pub stops : StopsSo old.system lines old.bound old.limit (text ++ added) why
  pub counts : CountsSo new old.system lines old.bound why

-- the engine was given the events of these lines, the times below the last line's are closed, and the text of what ran is this
pub record HasLines (e : engine.State) (lines : List Line) (text : List ℕ) : Type 0 where
  pub bound_is : e.bound ≡ last_time lines
  pub written : HasWritten e (events_of lines) text

-- a line was taken, and what it closes has run
pub record HasTaken (old new : engine.State) (lines : List Line) (l : Line) (text before after : List ℕ) : Type 0 where
  pub added : List ℕ
  pub after_is : after ≡ before ++ added
  pub system_is : new.system ≡ old.system
  pub limit_is : new.limit ≡ old.limit
  pub has : HasLines new (lines ++ l ∷ []) (text ++ added)

-- the times below one are closed, all their instants have run, and their text was appended
pub record HasRunBelow (old new : engine.State) (lines : List Line) (time : ℕ) (text before after : List ℕ) : Type 0 where
  pub added : List ℕ
  pub after_is : after ≡ before ++ added
  pub system_is : new.system ≡ old.system
  pub limit_is : new.limit ≡ old.limit
  pub bound_is : new.bound ≡ time
  pub written : HasWritten new lines (text ++ added)
  pub idle : IsIdle new

-- the engine stopped at an instant below a time
pub record HasStoppedAt (old new : engine.State) (lines : List Line) (time : ℕ) (text before after : List ℕ) (why : Stop) : Type 0 where
  pub added : List ℕ
  pub after_is : why ≢ stop.Memory → after ≡ before ++ added
  pub stops : StopsSo old.system lines time old.limit (text ++ added) why
  pub counts : CountsSo new old.system lines time why
