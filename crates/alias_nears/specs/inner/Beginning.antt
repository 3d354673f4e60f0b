-- Where content of a variable begins at all.
use Rattle.std.specs.Prelude.{◌≡◌, ℕ, Some}
use Rattle.flat_core.specs.declared.equation.Equation.{Equation}
use Rattle.flat_core.specs.declared.equation.Op.TheVariants as op
use Rattle.flat_core.specs.System.{System, equation}
use Rattle.alias_rules.specs.Uses.{IsVariable}

-- x is an aggregate variable that never has an event
pub record IsNilVariable (s : System) (x : ℕ) : Type 0 where
  pub variable : IsVariable s x
  pub at : Equation
  pub is : equation s x ≡ Some at
  pub nil : at.op ≡ op.Nil

abbrev pub NoneIsNil : System → Type 0
NoneIsNil s = (x : ℕ) → IsNilVariable s x → ⊥
