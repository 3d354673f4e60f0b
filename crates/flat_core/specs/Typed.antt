-- Arity and types of the equations.
use Rattle.std.specs.Prelude.{◌≡◌, ◌≤◌, Bool, true, false, List, [], ◌∷◌, length, map, Some}
use Rattle.tsl_value.specs.Aggregate.{is_aggregate}
use Rattle.tsl_value.specs.declared.operation.Update.{Update}
use Rattle.tsl_value.specs.declared.scalar.ScalarType.{ScalarType}
use Rattle.tsl_value.specs.declared.scalar.ScalarType.TheVariants as scalar_type
use Rattle.tsl_value.specs.declared.scalar.ValueType.{ValueType}
use Rattle.tsl_value.specs.declared.scalar.ValueType.TheVariants as value_type
use Rattle.lift_func.specs.BodyTree.{BodyTree}
use Rattle.lift_func.specs.Typing.{ValueKind, Value, Optional, HasKind}
use Rattle.lift_func.specs.Update.{UpdateTypes}
use Rattle.flat_core.specs.declared.equation.Op.{Op}
use Rattle.flat_core.specs.declared.equation.Op.TheVariants as op
use Rattle.flat_core.specs.Updates.{update_in}

abbrev pub unit_type : ValueType
unit_type = value_type.Scalar scalar_type.Unit

abbrev pub int_type : ValueType
int_type = value_type.Scalar scalar_type.Int

abbrev pub bool_type : ValueType
bool_type = value_type.Scalar scalar_type.Bool

abbrev pub kind_of : Bool → ValueType → ValueKind
kind_of true of = Value of
kind_of false of = Optional of

-- an operation of a type on arguments of these types
pub data IsTyped : Op → List ValueType → ValueType → Type 0 where
  input : {t : ScalarType} → IsTyped op.Input [] (value_type.Scalar t)
  nil : {t : ValueType} → IsTyped op.Nil [] t
  unit : IsTyped op.Unit [] unit_type
  empty : {t : ValueType} → is_aggregate t ≡ true → IsTyped op.Empty [] t
  time : {t : ValueType} → IsTyped op.Time (t ∷ []) int_type
  any : {ts : List ValueType} → 3 ≤ length ts → length ts ≤ 8 → IsTyped op.Any ts unit_type
  last : {t u : ValueType} → IsTyped op.Last (t ∷ u ∷ []) t
  delay : {u : ValueType} → IsTyped op.Delay (int_type ∷ u ∷ []) unit_type
  merge : {t : ValueType} → IsTyped op.Merge (t ∷ t ∷ []) t
  filter : {t : ValueType} → IsTyped op.Filter (t ∷ bool_type ∷ []) t
  pick : {t : ValueType} → is_aggregate t ≡ true → IsTyped op.Pick (bool_type ∷ t ∷ t ∷ []) t
  -- an update of an aggregate, with the values beside it
  update :
      {o : Op} {u : Update} {t : ValueType} {ts : List ValueType} →
      update_in o ≡ Some u →
      UpdateTypes u t ts →
      IsTyped o (t ∷ ts) t
  -- Lift BODY a ..
  lift :
      {body : BodyTree} {strict : Bool} {ts : List ValueType} {t : ScalarType} →
      1 ≤ length ts →
      length ts ≤ 8 →
      HasKind (map (kind_of strict) ts) body (kind_of strict (value_type.Scalar t)) →
      IsTyped (op.Lift body strict) ts (value_type.Scalar t)
