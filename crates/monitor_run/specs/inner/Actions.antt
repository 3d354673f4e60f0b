-- What the steps of an order do, with the arguments of an equation that hands on an event.
use Rattle.std.specs.Prelude.{◌≡◌, ℕ, ◌<◌, List, [], ◌∷◌, length, Some, IsFalse, IsTrue, slice_get, slice_index}
use Rattle.flat_core.specs.declared.equation.Equation.{Equation}
use Rattle.flat_core.specs.declared.equation.Op.{Op}
use Rattle.flat_core.specs.declared.equation.Op.TheVariants as op
use Rattle.flat_core.specs.System.{System, equation}
use Rattle.monitor_run.specs.inner.Here.{hands_on, is_given_op}
use Rattle.monitor_run.specs.declared.action.Action.{Action}
use Rattle.monitor_run.specs.declared.action.Action.TheVariants as action

-- the action is that of an operation and its arguments
abbrev pub IsActionOf : Action → Op → List ℕ → Type 0
IsActionOf action.Given o args = IsTrue (is_given_op o)
IsActionOf (action.Merge a b) o args = (o ≡ op.Merge) × (args ≡ a ∷ b ∷ [])
IsActionOf (action.Filter a c) o args = (o ≡ op.Filter) × (args ≡ a ∷ c ∷ [])
IsActionOf (action.Pick c a b) o args = (o ≡ op.Pick) × (args ≡ c ∷ a ∷ b ∷ [])
IsActionOf (action.Last v r) o args = (o ≡ op.Last) × (args ≡ v ∷ r ∷ [])
IsActionOf action.Own o args = IsFalse (is_given_op o) × IsFalse (hands_on o)
IsActionOf action.Print o args = ⊥

-- it is that of equation i
abbrev pub IsActionAt : System → ℕ → Action → Type 0
IsActionAt s i a = (e : Equation) → equation s i ≡ Some e → IsActionOf a e.op e.args

-- there is one for each step of an order, and those of equations are as they say
pub record AreActions (s : System) (order : List ℕ) (actions : List Action) : Type 0 where
  pub one_each : length actions ≡ length order
  pub each : (p : ℕ) (a : Action)
      → slice_get actions p ≡ Some a
      → slice_index order p < length s.equations
      → IsActionAt s (slice_index order p) a
