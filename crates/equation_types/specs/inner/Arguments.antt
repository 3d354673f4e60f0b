-- The types of arguments, and equations that have arity and types, as they compute.
use Rattle.std.specs.Prelude.{ℕ, Bool, false, List, [], ◌∷◌, Option, Some, None, slice_get}
use Rattle.std.specs.Option.{option_map}
use Rattle.tsl_value.specs.declared.scalar.ValueType.{ValueType}
use Rattle.flat_core.specs.declared.equation.Equation.{Equation}
use Rattle.equation_types.specs.inner.Rules.{is_typed_op}

abbrev pub type_at : List Equation → ℕ → Option ValueType
type_at equations a = option_map (λ e. e.of) (slice_get equations a)

abbrev pub with_type : Option ValueType → Option (List ValueType) → Option (List ValueType)
with_type None types = None
with_type (Some t) None = None
with_type (Some t) (Some ts) = Some (t ∷ ts)

-- the types of these equations, if they are all there
abbrev pub types_at : List Equation → List ℕ → Option (List ValueType)
types_at equations [] = Some []
types_at equations (a ∷ args) = with_type (type_at equations a) (types_at equations args)

abbrev pub is_typed_with : Equation → Option (List ValueType) → Bool
is_typed_with e None = false
is_typed_with e (Some types) = is_typed_op e.op types e.of

abbrev pub is_typed_among : List Equation → Equation → Bool
is_typed_among equations e = is_typed_with e (types_at equations e.args)
