-- Which instant comes next, by what a draft tells.
use Rattle.std.specs.Prelude.{◌≡◌, ◌==◌, ℕ, ◌<◌, ◌≤◌, Bool, ◌||◌, List, Some, IsTrue, slice_get}
use Rattle.std.specs.List.{list_any}
use Rattle.flat_core.specs.Line.{Line, is_line_on}
use Rattle.flat_core.specs.Pending.{option_is}
use Rattle.flat_core.specs.System.{System}
use Rattle.event_why.specs.declared.draft.Draft.{Draft}
use Rattle.event_why.specs.inner.Drafted.{due_of, fact_of}
use Rattle.event_why.specs.inner.Sliced.{heard, is_heard}

-- the line has an event of an equation that runs, at n or later
abbrev pub IsHeardFrom : System → ℕ → Line → Type 0
IsHeardFrom s n l = (n ≤ l.time) × IsTrue (is_heard s l)

-- no line before a place has
abbrev pub IsPassed : System → ℕ → List Line → ℕ → Type 0
IsPassed s n lines place = (k : ℕ) (l : Line) → k < place → slice_get lines k ≡ Some l → ¬ IsHeardFrom s n l

-- the line there is the first one that has, or no line has
pub record IsPlaceFrom (s : System) (n : ℕ) (lines : List Line) (place : ℕ) : Type 0 where
  pub passed : IsPassed s n lines place
  pub here : (l : Line) → slice_get lines place ≡ Some l → IsHeardFrom s n l

-- a delay is due at u, by what a draft tells
abbrev pub is_due_on : System → Draft → ℕ → Bool
is_due_on s draft u = list_any (λ i. option_is u (due_of (fact_of draft.steps.items draft.pending.numbers.items i))) s.running

-- an instant comes at u, by what a draft tells
abbrev pub is_next_by : System → List Line → Draft → ℕ → Bool
is_next_by s lines draft u = (u == 0) || is_line_on u (heard s lines) || is_due_on s draft u
