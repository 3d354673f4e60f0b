-- What is taken out of a monitor, part by part.
use Rattle.std.specs.Prelude.{◌==◌, ℕ, if◌then◌else◌, List, [], ◌∷◌, ◌++◌, Option, Some, None}
use Rattle.std.specs.List.{flat_map, range_with_len}
use Rattle.std.specs.Option.{option_or}
use Rattle.tsl_value.specs.declared.scalar.Scalar.{Scalar}
use Rattle.flat_core.specs.Line.{Line}
use Rattle.flat_core.specs.Members.{is_in}
use Rattle.monitor_state.specs.declared.state.OpenEvent.{OpenEvent}
use Rattle.monitor_state.specs.declared.state.SavedRegister.{SavedRegister}
use Rattle.monitor_state.specs.declared.state.SavedRegister.TheVariants as saved

-- the scalar of a saved register, if it has one, has a property
abbrev pub InRegister : (Scalar → Type 0) → SavedRegister → Type 0
InRegister P (saved.Scalar s) = P s
InRegister P _ = Unit {0}

-- the value of an event, if it is one of an input
abbrev pub event_for : ℕ → Option (ℕ × Scalar) → Option Scalar
event_for i None = None
event_for i (Some e) = if e.0 == i then Some e.1 else None

-- the value that the first event of an input has among lines
abbrev pub found_for : List Line → ℕ → Option Scalar
found_for [] i = None
found_for (l ∷ lines) i = option_or (event_for i l.event) (found_for lines i)

-- the event of an equation, if there is a value
abbrev pub opened : ℕ → Option Scalar → List OpenEvent
opened i None = []
opened i (Some s) = record { equation = i; value = s } ∷ []

-- the events of the first so many equations
abbrev pub opened_below : List Line → ℕ → List OpenEvent
opened_below lines n = flat_map (λ i. opened i (found_for lines i)) (range_with_len 0 n)

-- the list with a number more, unless it is there
abbrev pub firsts_with : List ℕ → ℕ → List ℕ
firsts_with xs x = if is_in xs x then xs else xs ++ x ∷ []

-- the list with more numbers, each of which is not there
abbrev pub firsts_on : List ℕ → List ℕ → List ℕ
firsts_on xs [] = xs
firsts_on xs (y ∷ ys) = firsts_on (firsts_with xs y) ys
