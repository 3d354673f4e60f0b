-- Values of inputs.
use Rattle.std.specs.Prelude.{◌≡◌, ℕ, Some, IsTrue}
use Rattle.tsl_value.specs.declared.scalar.Scalar.{Scalar}
use Rattle.tsl_value.specs.View.{Plain, is_of}
use Rattle.flat_core.specs.declared.equation.Equation.{Equation}
use Rattle.flat_core.specs.declared.equation.Op.TheVariants as op
use Rattle.flat_core.specs.System.{System, equation}

-- the value is one of an input
pub record IsInputOf (s : System) (i : ℕ) (value : Scalar) : Type 0 where
  pub at : Equation
  pub is : equation s i ≡ Some at
  pub op_is : at.op ≡ op.Input
  pub typed : IsTrue (is_of at.of (Plain value))
