-- How an answer of the code stands for the value of a body.
use Rattle.std.specs.Prelude.{◌≡◌, List, map, Option, Some, ℤ, Result, Ok, Err}
use Rattle.std.specs.Option.{option_map}
use Rattle.tsl_value.specs.View.{View, Plain}
use Rattle.tsl_value.specs.declared.scalar.Scalar.{Scalar}
use Rattle.tsl_value.specs.declared.scalar.Scalar.TheVariants as scalar
use Rattle.lift_func.specs.declared.fault.FaultKind.{FaultKind}
use Rattle.body_eval.specs.declared.eval.EvalFault.{EvalFault}
use Rattle.body_eval.specs.declared.eval.EvalFault.TheVariants as eval_fault
use Rattle.tsl_value.specs.declared.operation.Binary.{Binary}
use Rattle.lift_func.specs.Apply.{Answer, of_two}

-- scalars that may be absent, as views
abbrev pub views : List (Option Scalar) → List (Option View)
views args = map (λ v. option_map Plain v) args

-- what the code answers is this answer
abbrev pub IsAnswer : Result (Option Scalar) FaultKind → Answer → Type 0
IsAnswer (Ok v) answer = answer ≡ Ok (option_map Plain v)
IsAnswer (Err kind) answer = answer ≡ Err kind

-- the same of an Int
abbrev pub IsInt : Result ℤ FaultKind → Answer → Type 0
IsInt (Ok z) answer = answer ≡ Ok (Some (Plain (scalar.Int z)))
IsInt (Err kind) answer = answer ≡ Err kind

-- the same of a value, or that it is out of memory
abbrev pub IsValue : Result (Option Scalar) EvalFault → Answer → Type 0
IsValue (Ok v) answer = answer ≡ Ok (option_map Plain v)
IsValue (Err (eval_fault.Fault kind)) answer = answer ≡ Err kind
IsValue (Err eval_fault.Memory) answer = Unit {0}

-- a first operand that decides the operation's value, whatever the second one is
abbrev pub Decides : Binary → Option View → Option View → Type 0
Decides o a v = (y : Answer) → of_two o (Ok a) y ≡ Ok v

-- a first operand with which a fault of the second one is the operation's
abbrev pub NeedsSecond : Binary → Option View → Type 0
NeedsSecond o a = (kind : FaultKind) → of_two o (Ok a) (Err kind) ≡ Err kind
