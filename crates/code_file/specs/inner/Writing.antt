-- What is asked and told where code is written.
use Rattle.std.specs.Prelude.{ℕ, ◌<◌, ◌^◌, length, IfSome}
use Rattle.std.specs.List.{AllByRecursion}
use Rattle.lift_func.specs.BodyTree.{BodyTree, Literal, Argument, Absent, One, Two, Choice}
use Rattle.flat_core.specs.declared.equation.Equation.{Equation}
use Rattle.flat_core.specs.declared.equation.Op.{Op}
use Rattle.flat_core.specs.declared.equation.Op.TheVariants as op
use Rattle.flat_core.specs.Complete.{HasShortBody}
use Rattle.flat_core.specs.System.{System}
use Rattle.code_file.specs.Form.{IsEquationForm, IsSpelled}

-- the numbers of a body's arguments are below one
abbrev pub HasArgumentsBelow : ℕ → BodyTree → Type 0
HasArgumentsBelow n (Literal s) = Unit {0}
HasArgumentsBelow n (Argument k) = k < n
HasArgumentsBelow n (Absent t) = Unit {0}
HasArgumentsBelow n (One o a) = HasArgumentsBelow n a
HasArgumentsBelow n (Two o a b) = HasArgumentsBelow n a × HasArgumentsBelow n b
HasArgumentsBelow n (Choice c a b) = HasArgumentsBelow n c × HasArgumentsBelow n a × HasArgumentsBelow n b

abbrev pub HasFewArguments : Op → Type 0
HasFewArguments (op.Lift body strict) = HasArgumentsBelow (2 ^ 32) body
HasFewArguments _ = Unit {0}

-- what a typed system gives of an equation that is spelled
pub record CanSpell (e : Equation) : Type 0 where
  pub name : IfSome e.name (λ name. length name < 2 ^ 32)
  pub few_args : length e.args < 2 ^ 32
  pub args : AllByRecursion (λ a. a < 2 ^ 32) e.args
  pub short : HasShortBody e.op
  pub few : HasFewArguments e.op

-- what is spelled of an equation has its form
abbrev pub IsFormAt : System → ℕ → Type 0
IsFormAt s i = (e : Equation) → IsSpelled s i e → IsEquationForm e
