-- A table of names and the inputs that have them.
use Rattle.std.specs.Prelude.{◌≡◌, ℕ, if◌then◌else◌, is_none, List, [], ◌∷◌, ◌++◌, Option, Some, None, map, String}
use Rattle.std.specs.Str.{bytes_eq}
use Rattle.std.specs.String.{string_bytes}
use Rattle.flat_core.specs.System.{System}
use Rattle.trace_reader.specs.Reading.{input_called}

abbrev pub Places : Type 0
Places = List (List ℕ × ℕ)

abbrev pub places_in : {A : Type 0} → List (String A × ℕ) → Places
places_in entries = map (λ e. (string_bytes e.0, e.1)) entries

-- the input of a name
abbrev pub place_in : Places → List ℕ → Option ℕ
place_in [] name = None
place_in (p ∷ ps) name = if bytes_eq name p.0 then Some p.1 else place_in ps name

-- the table with a name more, unless it is there
abbrev pub noted : Places → List ℕ → ℕ → Places
noted places name i = if is_none (place_in places name) then places ++ (name, i) ∷ [] else places

-- each name has the system's first input of that name
pub record IsTable (places : Places) (s : System) : Type 0 where
  pub at : (name : List ℕ) → place_in places name ≡ input_called s name
