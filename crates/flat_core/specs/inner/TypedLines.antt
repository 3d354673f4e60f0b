-- Lines whose events are of their inputs' types.
use Rattle.std.specs.Prelude.{◌≡◌, ℕ, List, Some, IsTrue}
use Rattle.std.specs.List.{AllByRecursion}
use Rattle.tsl_value.specs.declared.scalar.Scalar.{Scalar}
use Rattle.tsl_value.specs.View.{Plain, is_of}
use Rattle.flat_core.specs.declared.equation.Equation.{Equation}
use Rattle.flat_core.specs.Line.{Line}
use Rattle.flat_core.specs.System.{System, equation}

-- the event of a line is of its input's type
pub record IsTypedLine (s : System) (l : Line) : Type 0 where
  pub event : (i : ℕ) (v : Scalar) → l.event ≡ Some (i, v) → (e : Equation) → equation s i ≡ Some e → IsTrue (is_of e.of (Plain v))

abbrev pub AreTypedLines : System → List Line → Type 0
AreTypedLines s lines = AllByRecursion (IsTypedLine s) lines
