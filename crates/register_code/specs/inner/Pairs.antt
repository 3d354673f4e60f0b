-- The pairs of steps of which the first has to stand before the second, as a list.
use Rattle.std.specs.Prelude.{ℕ, ◌+◌, if◌then◌else◌, List, [], ◌∷◌, ◌++◌, Option, Some, None, length, map}
use Rattle.std.specs.List.{flat_map, range_with_len}
use Rattle.flat_core.specs.declared.equation.Equation.{Equation}
use Rattle.flat_core.specs.declared.equation.Output.{Output}
use Rattle.flat_core.specs.System.{System, equation, runs}
use Rattle.flat_core.specs.WellFormed.{unguarded_of}

-- the arguments of an equation that have to stand before it
abbrev pub unguarded_at : Option Equation → List ℕ
unguarded_at None = []
unguarded_at (Some e) = unguarded_of e.op e.args

abbrev pub pairs_to : ℕ → List ℕ → List (ℕ × ℕ)
pairs_to i args = map (λ a. (a, i)) args

abbrev pub pairs_at : System → ℕ → List (ℕ × ℕ)
pairs_at s i = if runs s i then pairs_to i (unguarded_at (equation s i)) else []

-- the pairs of the first n equations
abbrev pub argument_pairs : System → ℕ → List (ℕ × ℕ)
argument_pairs s n = flat_map (pairs_at s) (range_with_len 0 n)

-- the pairs of the prints, of which the first has this step
abbrev pub print_pairs : ℕ → List Output → List (ℕ × ℕ)
print_pairs x [] = []
print_pairs x (o ∷ outputs) = (o.equation, x) ∷ print_pairs (x + 1) outputs

abbrev pub all_pairs : System → List (ℕ × ℕ)
all_pairs s = argument_pairs s (length s.equations) ++ print_pairs (length s.equations) s.outputs
