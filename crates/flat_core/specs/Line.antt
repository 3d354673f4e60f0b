-- The lines of a trace that were read: each has a time, and perhaps an input's event.
use Rattle.std.specs.Prelude.{◌==◌, ◌≤◌, ℕ, Bool, ◌&&◌, if◌then◌else◌, List, [], ◌∷◌, Option, Some, None, is_some}
use Rattle.std.specs.List.{list_any}
use Rattle.std.specs.Option.{option_or}
use Rattle.tsl_value.specs.declared.scalar.Scalar.{Scalar}
use Rattle.tsl_value.specs.View.{View, Plain}
use Rattle.flat_core.specs.declared.line.TraceLine.{TraceLine}
use Rattle.flat_core.specs.Events.{Inputs}

abbrev pub Line : Type 0
Line = TraceLine

-- the event of input i at t
abbrev pub event_in : ℕ → ℕ → ℕ → Option (ℕ × Scalar) → Option View
event_in i t time None = None
event_in i t time (Some e) = if (time == t) && (e.0 == i) then Some (Plain e.1) else None

abbrev pub inputs_of : List Line → Inputs
inputs_of [] i t = None
inputs_of (l ∷ ls) i t = option_or (event_in i t l.time l.event) (inputs_of ls i t)

-- the line has an event at a time, and one of the lines has
abbrev pub is_line_at : ℕ → Line → Bool
is_line_at t l = (l.time == t) && is_some l.event

abbrev pub is_line_on : ℕ → List Line → Bool
is_line_on t lines = list_any (is_line_at t) lines

-- the time of the last line, or 0 where there is none
abbrev pub last_time : List Line → ℕ
last_time [] = 0
last_time (l ∷ []) = l.time
last_time (l ∷ m ∷ ls) = last_time (m ∷ ls)

-- the times of the lines never fall
abbrev pub IsSorted : List Line → Type 0
IsSorted [] = Unit {0}
IsSorted (l ∷ []) = Unit {0}
IsSorted (l ∷ m ∷ ls) = (l.time ≤ m.time) × IsSorted (m ∷ ls)
