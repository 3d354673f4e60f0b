-- Which equations a step uses at its own time, and which a delay waits for.
use Rattle.std.specs.Prelude.{◌==◌, ℕ, ◌-◌, Bool, ◌||◌, nat_lt, if◌then◌else◌, List, [], ◌∷◌, length, Option, Some, None, slice_get, slice_index_or}
use Rattle.flat_core.specs.declared.equation.Equation.{Equation}
use Rattle.flat_core.specs.declared.equation.Output.{Output}
use Rattle.flat_core.specs.Case.{used_of}
use Rattle.flat_core.specs.Members.{is_in}
use Rattle.flat_core.specs.System.{System, equation}

abbrev pub used_at : Option Equation → List ℕ
used_at None = []
used_at (Some e) = used_of e.op e.args

abbrev pub printed_at : Option Output → List ℕ
printed_at None = []
printed_at (Some o) = o.equation ∷ []

-- the equations that a step uses at the same time: the step of an equation some of its arguments, a print that of its output
abbrev pub used_by : System → ℕ → List ℕ
used_by s step =
    if nat_lt step (length s.equations) then used_at (equation s step) else printed_at (slice_get s.outputs (step - length s.equations))

abbrev pub args_at : Option Equation → List ℕ
args_at None = []
args_at (Some e) = e.args

-- equation a is delay d itself, its amount or its reset
abbrev pub is_of_delay : System → ℕ → ℕ → Bool
is_of_delay s d a = (d == a) || is_in (args_at (equation s d)) a

-- the list of equation a
abbrev pub row : List (List ℕ) → ℕ → List ℕ
row rows a = slice_index_or rows a []
