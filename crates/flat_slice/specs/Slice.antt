-- The slice of an output: what its events can depend on.
use Rattle.std.specs.Prelude.{◌≡◌, ◌↔◌, ℕ, ◌<◌, ◌≤◌, List, [], ◌∷◌, Some, IsTrue, slice_get}
use Rattle.flat_core.specs.declared.equation.Op.TheVariants as op
use Rattle.flat_core.specs.declared.equation.Equation.{Equation}
use Rattle.flat_core.specs.declared.equation.Output.{Output}
use Rattle.flat_core.specs.Members.{is_in}
use Rattle.flat_core.specs.System.{System, equation}
use Rattle.flat_core.specs.Needed.{IsReachedFrom}
use Rattle.flat_core.specs.Events.{Inputs}
use Rattle.flat_core.specs.Case.{Streams}
use Rattle.flat_core.specs.Solution.{Solves}

-- equation o, and each argument of each member
abbrev pub IsSlice : System → ℕ → List ℕ → Type 0
IsSlice s o slice = (i : ℕ) → IsTrue (is_in slice i) ↔ IsReachedFrom s.equations (o ∷ []) i

-- that of the output of a number, counted from 0
abbrev pub IsSliceOf : System → ℕ → List ℕ → Type 0
IsSliceOf s n slice = (output : Output) → slice_get s.outputs n ≡ Some output → IsSlice s output.equation slice

-- the inputs among these equations have the same events up to t
pub record AgreeUpTo (s : System) (members : List ℕ) (t : ℕ) (p q : Inputs) : Type 0 where
  pub same :
      (i : ℕ) (e : Equation) →
      IsTrue (is_in members i) →
      equation s i ≡ Some e →
      e.op ≡ op.Input →
      (u : ℕ) → u ≤ t →
      p i u ≡ q i u

-- then the same happens at each of these equations up to t, faults included, whatever the other inputs have, and in whatever solution
pub record Decides (s : System) (members : List ℕ) : Type 0 where
  pub same :
      (p q : Inputs) (bound other_bound : ℕ) (z w : Streams) →
      Solves s p bound z →
      Solves s q other_bound w →
      (t : ℕ) → t < bound → t < other_bound →
      AgreeUpTo s members t p q →
      (i : ℕ) → IsTrue (is_in members i) →
      z i t ≡ w i t
