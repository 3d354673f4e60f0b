-- What facts of the arguments at one time make of an equation.
use Rattle.std.specs.Prelude.{◌≡◌, ℕ, List, Option, Ok}
use Rattle.tsl_value.specs.View.{View}
use Rattle.flat_core.specs.declared.equation.Equation.{Equation}
use Rattle.flat_core.specs.Events.{at_once}
use Rattle.plain_solver.specs.inner.Typed.{TakesValues}
use Rattle.why_rules.specs.Facts.{Fact}
use Rattle.why_rules.specs.Rules.{TellsEach}

-- there is a fact for each argument, in order, and what they tell makes this of the equation: an event, or none
pub record Agrees (e : Equation) (t : ℕ) (v : Option View) (fs : List Fact) : Type 0 where
  pub values : List (Option View)
  pub told : TellsEach t e.args values fs
  pub is : at_once e.op e.of values t ≡ Ok v

-- what they tell is of the types that the operation takes
pub record TakesTold (e : Equation) (t : ℕ) (fs : List Fact) : Type 0 where
  pub each : (values : List (Option View)) → TellsEach t e.args values fs → TakesValues e values
