-- The arguments of an equation are at most eight.
use Rattle.std.proofs.Common.{◌≡◌, ℕ, ◌≤◌, List, length, Some, arith}
use Rattle.tsl_value.specs.declared.operation.Update.{Update}
use Rattle.tsl_value.specs.declared.scalar.ValueType.{ValueType}
use Rattle.lift_func.specs.Update.{UpdateTypes}
use Rattle.lift_func.specs.Update as update_types
use Rattle.flat_core.specs.declared.equation.Equation.{Equation}
use Rattle.flat_core.specs.declared.equation.Op.{Op}
use Rattle.flat_core.specs.Complete.{IsFlat}
use Rattle.flat_core.specs.System.{System, equation}
use Rattle.flat_core.specs.Typed.{IsTyped}
use Rattle.flat_core.specs.Typed as typed
use Rattle.flat_core.proofs.Shapes.{same_length}

update_few : (u : Update) (t : ValueType) (ts : List ValueType) → UpdateTypes u t ts → length ts ≤ 2
update_few u t ts (update_types.UpdateTypes.set_add is) = omega arith
update_few u t ts (update_types.UpdateTypes.set_remove is) = omega arith
update_few u t ts (update_types.UpdateTypes.map_add is) = omega arith
update_few u t ts (update_types.UpdateTypes.map_remove is) = omega arith
update_few u t ts update_types.UpdateTypes.queue_add = omega arith
update_few u t ts update_types.UpdateTypes.queue_take = omega arith

types_few : (o : Op) (types : List ValueType) (of : ValueType) → IsTyped o types of → length types ≤ 8
types_few o types of typed.IsTyped.input = omega arith
types_few o types of typed.IsTyped.nil = omega arith
types_few o types of typed.IsTyped.unit = omega arith
types_few o types of (typed.IsTyped.empty is) = omega arith
types_few o types of typed.IsTyped.time = omega arith
types_few o types of (typed.IsTyped.any low high) = high
types_few o types of typed.IsTyped.last = omega arith
types_few o types of typed.IsTyped.delay = omega arith
types_few o types of typed.IsTyped.merge = omega arith
types_few o types of typed.IsTyped.filter = omega arith
types_few o types of (typed.IsTyped.pick is) = omega arith
types_few o types of (typed.IsTyped.update {u = u} {t = t} {ts = ts} is row) = let few = update_few u t ts row in omega (arith, few)
types_few o types of (typed.IsTyped.lift low high kind) = high

pub args_few : (s : System) → IsFlat s → (i : ℕ) (e : Equation) → equation s i ≡ Some e → length e.args ≤ 8
args_few s whole i e at =
    let g = whole.complete.typed.each i e at in
    let few = types_few e.op g.types e.of g.typed in
    let same = same_length s.equations e.args g.types g.arguments in
    omega (arith, few, same)
