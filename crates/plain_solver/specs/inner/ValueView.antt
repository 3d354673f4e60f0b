-- Values as views.
use Rattle.std.specs.Prelude.{◌≡◌, Option, Result, Ok, Err}
use Rattle.tsl_value.specs.View.{View, Plain}
use Rattle.body_eval.specs.declared.eval.EvalFault.{EvalFault}
use Rattle.body_eval.specs.declared.eval.EvalFault.TheVariants as eval_fault
use Rattle.lift_func.specs.declared.fault.FaultKind.{FaultKind}
use Rattle.lift_func.specs.Apply.{Answer}
use Rattle.aggregate_store.specs.inner.CellView as cell
use Rattle.plain_solver.specs.declared.value.Held.{Held}
use Rattle.plain_solver.specs.declared.value.Held.TheVariants as variant

abbrev pub view_of : Held → View
view_of (variant.Scalar s) = Plain s
view_of (variant.Aggregate c) = cell.view_of c.value

-- what the code answers is this answer, or that it is out of memory
abbrev pub IsAnswer : Result (Option View) EvalFault → Answer → Type 0
IsAnswer (Ok v) answer = answer ≡ Ok v
IsAnswer (Err (eval_fault.Fault kind)) answer = answer ≡ Err kind
IsAnswer (Err eval_fault.Memory) answer = Unit {0}

-- the same of an update of values that are there
abbrev pub IsUpdate : Result View EvalFault → Result View FaultKind → Type 0
IsUpdate (Ok v) made = made ≡ Ok v
IsUpdate (Err (eval_fault.Fault kind)) made = made ≡ Err kind
IsUpdate (Err eval_fault.Memory) made = Unit {0}
