-- Which equations have to come before others at the same time.
use Rattle.std.specs.Prelude.{ℕ, zero, suc, List, [], ◌∷◌, ◌++◌, Option, Some, None}
use Rattle.flat_core.specs.declared.equation.Equation.{Equation}
use Rattle.flat_core.specs.System.{System, equation}
use Rattle.flat_core.specs.WellFormed.{unguarded_of, Needs}

-- equation a is an argument of equation i that is not guarded
abbrev pub Feeds : System → ℕ → ℕ → Type 0
Feeds s a i = Needs s i a

-- the pairs of these arguments and the equation that has them
abbrev pub edges_to : ℕ → List ℕ → List (ℕ × ℕ)
edges_to i [] = []
edges_to i (a ∷ args) = (a, i) ∷ edges_to i args

abbrev pub edges_at : ℕ → Option Equation → List (ℕ × ℕ)
edges_at i None = []
edges_at i (Some e) = edges_to i (unguarded_of e.op e.args)

-- the pairs of the first equations
abbrev pub edges_of : System → ℕ → List (ℕ × ℕ)
edges_of s zero = []
edges_of s (suc i) = edges_of s i ++ edges_at i (equation s i)
