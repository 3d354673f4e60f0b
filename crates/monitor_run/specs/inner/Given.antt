-- The events that a monitor was given, each as a line.
use Rattle.std.specs.Prelude.{◌≡◌, ℕ, suc, ◌≤◌, List, [], ◌∷◌, Some, None}
use Rattle.std.specs.List.{AllByRecursion}
use Rattle.tsl_value.specs.declared.scalar.Scalar.{Scalar}
use Rattle.flat_core.specs.Complete.{IsShort}
use Rattle.flat_core.specs.Line.{Line, IsSorted, inputs_of}
use Rattle.flat_core.specs.System.{System}
use Rattle.monitor_state.specs.Inputs.{IsInputOf}

abbrev pub line_of : ℕ → ℕ → Scalar → Line
line_of time i value = record { time = time; event = Some (i, value) }

-- the line has an event of an input
pub record IsEventLine (s : System) (l : Line) : Type 0 where
  pub input : ℕ
  pub value : Scalar
  pub is : l.event ≡ Some (input, value)
  pub fits : IsInputOf s input value

abbrev pub AreEventLines : System → List Line → Type 0
AreEventLines s lines = AllByRecursion (IsEventLine s) lines

-- a text of the event has at most 65,536 bytes
abbrev pub IsShortLine : Line → Type 0
IsShortLine l = (i : ℕ) (value : Scalar) → l.event ≡ Some (i, value) → IsShort value

-- no line has an event that a later line has another one of, for the same input at the same time
abbrev pub AreOnce : List Line → Type 0
AreOnce [] = Unit {0}
AreOnce (l ∷ lines) = ((i : ℕ) (value : Scalar) → l.event ≡ Some (i, value) → inputs_of lines i l.time ≡ None) × AreOnce lines

-- events in order of time, at most one for an input and a time
pub record AreGiven (s : System) (lines : List Line) : Type 0 where
  pub sorted : IsSorted lines
  pub events : AreEventLines s lines
  pub once : AreOnce lines

abbrev pub AreAt : ℕ → List Line → Type 0
AreAt time lines = AllByRecursion (λ l. l.time ≡ time) lines

abbrev pub AreBefore : ℕ → List Line → Type 0
AreBefore time lines = AllByRecursion (λ l. suc l.time ≤ time) lines

-- the events are of equations below a number
abbrev pub IsThere : ℕ → Line → Type 0
IsThere n l = (i : ℕ) (value : Scalar) → l.event ≡ Some (i, value) → suc i ≤ n

abbrev pub AreThere : ℕ → List Line → Type 0
AreThere n lines = AllByRecursion (IsThere n) lines
