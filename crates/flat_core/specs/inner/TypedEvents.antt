-- Events of their equations' types, where those of the inputs are.
use Rattle.std.specs.Prelude.{◌≡◌, ℕ, ◌<◌, List, [], ◌∷◌, Option, Some, IsTrue}
use Rattle.tsl_value.specs.View.{View, is_of}
use Rattle.tsl_value.specs.declared.scalar.ValueType.{ValueType}
use Rattle.lift_func.specs.Typing.{Optional, fits}
use Rattle.flat_core.specs.declared.equation.Equation.{Equation}
use Rattle.flat_core.specs.declared.equation.Op.TheVariants as op
use Rattle.flat_core.specs.Case.{Streams}
use Rattle.flat_core.specs.Events.{Inputs}
use Rattle.flat_core.specs.Line.{Line, inputs_of}
use Rattle.flat_core.specs.Solution.{Solves}
use Rattle.flat_core.specs.Stream.{event}
use Rattle.flat_core.specs.System.{System, runs, equation, IsProper}
use Rattle.flat_core.specs.inner.TypedLines.{AreTypedLines}
use Rattle.flat_core.specs.TypedSystem.{IsTypedSystem}
use Rattle.flat_core.specs.WellFormed.{IsWellFormed}

-- a value that may be absent is of a type
abbrev pub IsOf : ValueType → Option View → Type 0
IsOf of v = IsTrue (fits (Optional of) v)

-- values that may be absent are of these types
abbrev pub AreOf : List ValueType → List (Option View) → Type 0
AreOf [] [] = Unit {0}
AreOf (t ∷ types) (v ∷ values) = IsOf t v × AreOf types values
AreOf _ _ = ⊥

-- what comes for an input is of its type
pub record AreTypedInputs (s : System) (inputs : Inputs) : Type 0 where
  pub each :
      (i : ℕ) (e : Equation) →
      equation s i ≡ Some e →
      e.op ≡ op.Input →
      (t : ℕ) (v : View) → inputs i t ≡ Some v →
      IsTrue (is_of e.of v)

-- each event of a running equation below a bound is of its type
pub record HasTypedEvents (s : System) (bound : ℕ) (z : Streams) : Type 0 where
  pub each :
      (i : ℕ) (e : Equation) →
      IsTrue (runs s i) →
      equation s i ≡ Some e →
      (t : ℕ) → t < bound →
      (v : View) → event (z i t) ≡ Some v →
      IsTrue (is_of e.of v)

-- the inputs of typed lines are typed
abbrev pub TypedLinesGiveTypedInputs : Type 0
TypedLinesGiveTypedInputs = (s : System) (lines : List Line) → AreTypedLines s lines → AreTypedInputs s (inputs_of lines)

-- a solution of a well-formed, well typed system for typed inputs has typed events
abbrev pub TypedInputsGiveTypedEvents : Type 0
TypedInputsGiveTypedEvents =
    (s : System) (inputs : Inputs) (bound : ℕ) (z : Streams) →
    IsProper s →
    IsTypedSystem s →
    IsWellFormed s →
    AreTypedInputs s inputs →
    Solves s inputs bound z →
    HasTypedEvents s bound z
