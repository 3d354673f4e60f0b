-- What a check of facts stands on.
use Rattle.std.specs.Prelude.{◌≡◌, ℕ, ◌<◌, List, length, Some, IsTrue}
use Rattle.std.specs.List.{AllByRecursion}
use Rattle.std.specs.List.Sorted.{IsStrictlyIncreasing}
use Rattle.tsl_value.specs.View.{View, is_of}
use Rattle.tsl_value.specs.declared.scalar.Scalar.{Scalar}
use Rattle.flat_core.specs.declared.equation.Equation.{Equation}
use Rattle.flat_core.specs.declared.equation.Op.TheVariants as op
use Rattle.flat_core.specs.Complete.{IsFlat}
use Rattle.flat_core.specs.Line.{Line, IsSorted}
use Rattle.flat_core.specs.Members.{is_in}
use Rattle.flat_core.specs.System.{System, equation}
use Rattle.why_rules.specs.Facts.{Fact, Happens}

-- a whole system, equations of it in ascending order, and lines in order of time
pub record AreGrounds (s : System) (slice : List ℕ) (lines : List Line) : Type 0 where
  pub whole : IsFlat s
  pub ascending : IsStrictlyIncreasing slice
  pub there : (i : ℕ) → IsTrue (is_in slice i) → i < length s.equations
  pub sorted : IsSorted lines

-- the value of an event is of its equation's type
pub record IsTypedFact (s : System) (f : Fact) : Type 0 where
  pub each : (i t : ℕ) (v : View) → f ≡ Happens i t v → (e : Equation) → equation s i ≡ Some e → IsTrue (is_of e.of v)

abbrev pub AreTypedFacts : System → List Fact → Type 0
AreTypedFacts s facts = AllByRecursion (IsTypedFact s) facts

-- a line has an event of an input of the slice
pub record IsGiven (s : System) (slice : List ℕ) (line : Line) : Type 0 where
  pub input : ℕ
  pub value : Scalar
  pub has : line.event ≡ Some (input, value)
  pub among : IsTrue (is_in slice input)
  pub at : Equation
  pub is : equation s input ≡ Some at
  pub op_is : at.op ≡ op.Input
