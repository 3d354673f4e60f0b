-- Which equations can have a root fault.
use Rattle.std.specs.Prelude.{◌≡◌, ℕ, Bool, true, false, Some, IsTrue}
use Rattle.std.specs.Option.{option_map_or}
use Rattle.lift_func.specs.Typing.{can_fault}
use Rattle.lift_func.specs.Update.{update_faults}
use Rattle.flat_core.specs.declared.equation.Op.{Op}
use Rattle.flat_core.specs.declared.equation.Op.TheVariants as op
use Rattle.flat_core.specs.declared.equation.Equation.{Equation}
use Rattle.flat_core.specs.System.{System, runs, equation}
use Rattle.flat_core.specs.Updates.{update_in}

-- a delay, a lift of a body with an operation that can fault, and an update that can
abbrev pub can_fault_op : Op → Bool
can_fault_op op.Delay = true
can_fault_op (op.Lift body strict) = can_fault body
can_fault_op o = option_map_or update_faults (update_in o) false

-- equation i runs, and is one of these
pub record CanFault (s : System) (i : ℕ) : Type 0 where
  pub at : Equation
  pub is : equation s i ≡ Some at
  pub running : IsTrue (runs s i)
  pub faults : IsTrue (can_fault_op at.op)
