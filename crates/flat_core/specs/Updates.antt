-- Which operations are updates, and the updates that run.
use Rattle.std.specs.Prelude.{ℕ, Bool, false, ◌&&◌, List, Option, Some, None, is_some}
use Rattle.std.specs.List.{filter}
use Rattle.tsl_value.specs.declared.operation.Update.{Update}
use Rattle.tsl_value.specs.declared.operation.Update.TheVariants as update
use Rattle.flat_core.specs.declared.equation.Op.{Op}
use Rattle.flat_core.specs.declared.equation.Op.TheVariants as op
use Rattle.flat_core.specs.declared.equation.Equation.{Equation}
use Rattle.flat_core.specs.System.{System, equation, runs, numbers}

-- the operation of an update, and the update that an operation is, if it is one
abbrev pub operation_of : Update → Op
operation_of update.SetAdd = op.SetAdd
operation_of update.SetRemove = op.SetRemove
operation_of update.MapAdd = op.MapAdd
operation_of update.MapRemove = op.MapRemove
operation_of update.QueueAdd = op.QueueAdd
operation_of update.QueueTake = op.QueueTake

abbrev pub update_in : Op → Option Update
update_in op.SetAdd = Some update.SetAdd
update_in op.SetRemove = Some update.SetRemove
update_in op.MapAdd = Some update.MapAdd
update_in op.MapRemove = Some update.MapRemove
update_in op.QueueAdd = Some update.QueueAdd
update_in op.QueueTake = Some update.QueueTake
update_in _ = None

abbrev pub is_update : Op → Bool
is_update o = is_some (update_in o)

abbrev pub is_update_at : Option Equation → Bool
is_update_at None = false
is_update_at (Some e) = is_update e.op

abbrev pub is_running_update : System → ℕ → Bool
is_running_update s i = runs s i && is_update_at (equation s i)

-- their numbers, in order
abbrev pub running_updates : System → List ℕ
running_updates s = filter (is_running_update s) (numbers s)
