-- What sets, maps and queues have in common.
use Rattle.std.specs.Prelude.{ℕ, Bool, true, false, [], length}
use Rattle.std.specs.FinSet as set
use Rattle.std.specs.FinMap as map
use Rattle.tsl_value.specs.View.{View, Plain, Keyed, Mapped, Listed}
use Rattle.tsl_value.specs.declared.scalar.Scalar.TheVariants as scalar
use Rattle.tsl_value.specs.declared.scalar.ValueType.{ValueType}
use Rattle.tsl_value.specs.declared.scalar.ValueType.TheVariants as value_type

-- the type is one of aggregates
abbrev pub is_aggregate : ValueType → Bool
is_aggregate (value_type.Scalar of) = false
is_aggregate _ = true

-- the view is an aggregate
abbrev pub has_elements : View → Bool
has_elements (Plain s) = false
has_elements _ = true

-- the aggregate of a type that has no element; a type of scalars has none
abbrev pub empty_of : ValueType → View
empty_of (value_type.Scalar of) = Plain scalar.Unit
empty_of (value_type.Set key) = Keyed set.empty
empty_of (value_type.Map key of) = Mapped map.empty
empty_of (value_type.Queue of) = Listed []

-- the number of elements
abbrev pub size_of : View → ℕ
size_of (Plain s) = 0
size_of (Keyed s) = set.len s
size_of (Mapped m) = map.len m
size_of (Listed xs) = length xs
