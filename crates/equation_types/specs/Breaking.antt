-- Equations that break arity and types, or run on an argument that does not.
use Rattle.std.specs.Prelude.{◌≡◌, ℕ, List, Some, IsTrue, slice_get}
use Rattle.std.specs.List.{AllByRecursion}
use Rattle.flat_core.specs.declared.equation.Equation.{Equation}
use Rattle.flat_core.specs.Members.{is_in}
use Rattle.flat_core.specs.TypedSystem.{IsTypedEquation}

-- arity and types among these equations, of which some run; where the equation runs, each of its arguments does
pub record Fits (equations : List Equation) (running : List ℕ) (i : ℕ) (e : Equation) : Type 0 where
  pub typed : IsTypedEquation equations e
  pub arguments_run : IsTrue (is_in running i) → AllByRecursion (λ a. IsTrue (is_in running a)) e.args

pub record BreaksTypes (equations : List Equation) (running : List ℕ) (i : ℕ) : Type 0 where
  pub at : Equation
  pub is : slice_get equations i ≡ Some at
  pub breaks : Fits equations running i at → ⊥
