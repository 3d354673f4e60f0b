-- Names that are all there and all different.
use Rattle.std.specs.Prelude.{◌≡◌, ◌&&◌, ℕ, Bool, true, false, not, if◌then◌else◌, List, [], ◌∷◌, ◌++◌, map, Option, Some, None}
use Rattle.std.specs.List.{list_any}
use Rattle.std.specs.Str.{bytes_eq}
use Rattle.flat_core.specs.declared.equation.Equation.{Equation}
use Rattle.flat_core.specs.declared.equation.Output.{Output}
use Rattle.trace_reader.specs.Reading.{is_input}

-- each name is there, is none of those before, and none of these
abbrev pub are_apart : List (List ℕ) → List (Option (List ℕ)) → Bool
are_apart before [] = true
are_apart before (None ∷ names) = false
are_apart before (Some name ∷ names) = not (list_any (bytes_eq name) before) && are_apart (before ++ name ∷ []) names

abbrev pub input_names : List Equation → List (Option (List ℕ))
input_names [] = []
input_names (e ∷ es) = if is_input e.op then e.name ∷ input_names es else input_names es

abbrev pub output_names : List Output → List (Option (List ℕ))
output_names outputs = map (λ o. Some o.name) outputs

-- These names went to those before, if they fit there.
abbrev pub Adds : List (List ℕ) → List (List ℕ) → List (Option (List ℕ)) → Bool → Type 0
Adds before after names fit = (more : List (Option (List ℕ))) → are_apart before (names ++ more) ≡ (fit && are_apart after more)
