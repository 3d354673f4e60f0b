-- The equations that the outputs need.
use Rattle.std.specs.Prelude.{◌≡◌, ◌↔◌, ℕ, List, Some, IsTrue, slice_get}
use Rattle.std.specs.List.{Contains}
use Rattle.flat_core.specs.declared.equation.Equation.{Equation}
use Rattle.flat_core.specs.declared.equation.Output.{Output}
use Rattle.translation_order.specs.Graph.{Walk}
use Rattle.flat_core.specs.System.{System, runs}

-- an edge from equation i to its argument j
pub record HasArgument (equations : List Equation) (i j : ℕ) : Type 0 where
  pub at : Equation
  pub is : slice_get equations i ≡ Some at
  pub argument : Contains at.args j

-- a walk along arguments leads to i from the equation of an output
pub record IsReached (equations : List Equation) (outputs : List Output) (i : ℕ) : Type 0 where
  pub output : Output
  pub printed : Contains outputs output
  pub walk : Walk (HasArgument equations) output.equation i

-- or from one of these equations
pub record IsReachedFrom (equations : List Equation) (starts : List ℕ) (i : ℕ) : Type 0 where
  pub start : ℕ
  pub among : Contains starts start
  pub walk : Walk (HasArgument equations) start i

abbrev pub IsNeeded : System → ℕ → Type 0
IsNeeded s i = IsReached s.equations s.outputs i

-- just those equations run that the outputs need
pub record RunsNeeded (s : System) : Type 0 where
  pub each : (i : ℕ) → IsTrue (runs s i) ↔ IsNeeded s i
