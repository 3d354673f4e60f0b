-- Written types: what they stand for, and which of them may not stand where they do.
use Rattle.std.specs.Prelude.{Bool, true, false, List, [], ◌∷◌, ◌++◌, if◌then◌else◌, Option, Some, None}
use Rattle.std.specs.Option.{option_map, option_and_then}
use Rattle.tsl_value.specs.declared.place.Place.{Place}
use Rattle.tsl_value.specs.declared.scalar.ScalarType.{ScalarType}
use Rattle.tsl_value.specs.declared.scalar.ScalarType.TheVariants as scalar_type
use Rattle.tsl_value.specs.declared.scalar.KeyType.{KeyType}
use Rattle.tsl_value.specs.declared.scalar.KeyType.TheVariants as key_type
use Rattle.tsl_value.specs.declared.scalar.ValueType.{ValueType}
use Rattle.tsl_value.specs.declared.scalar.ValueType.TheVariants as value_type
use Rattle.syntax_tree.specs.Tree as tree
use Rattle.syntax_tree.specs.Tree.{TypeName, Aggregate}
use Rattle.syntax_tree.specs.Places.{type_place}
use Rattle.type_rules.specs.declared.rule.ExprType.{ExprType}
use Rattle.type_rules.specs.declared.rule.ExprType.TheVariants as expr_type

-- ---- what a written type stands for, if it may stand at all
abbrev pub scalar_of : TypeName → Option ScalarType
scalar_of (tree.UnitType p) = Some scalar_type.Unit
scalar_of (tree.IntType p) = Some scalar_type.Int
scalar_of (tree.BoolType p) = Some scalar_type.Bool
scalar_of (tree.TextType p) = Some scalar_type.Text
scalar_of _ = None

-- keys are Int, Bool or String
abbrev pub key_of : TypeName → Option KeyType
key_of (tree.IntType p) = Some key_type.Int
key_of (tree.BoolType p) = Some key_type.Bool
key_of (tree.TextType p) = Some key_type.Text
key_of _ = None

abbrev pub aggregate_of : Aggregate → Option ValueType
aggregate_of (tree.SetOf k) = option_map value_type.Set (key_of k)
aggregate_of (tree.MapOf k v) = option_and_then (λ key. option_map (value_type.Map key) (scalar_of v)) (key_of k)
aggregate_of (tree.QueueOf v) = option_map value_type.Queue (scalar_of v)

abbrev pub value_of : TypeName → Option ValueType
value_of (tree.AggregateType p a) = aggregate_of a
value_of y = option_map value_type.Scalar (scalar_of y)

-- of a parameter, a macro or a value function: just what is written
abbrev pub as_written : TypeName → Option ExprType
as_written (tree.EventsType p y) = option_map expr_type.Stream (value_of y)
as_written (tree.OptionType p y) = option_map expr_type.Optional (value_of y)
as_written y = option_map expr_type.Value (value_of y)

-- of an input, or of a definition without parameters: the word for streams may be left out
abbrev pub as_stream : TypeName → Option ExprType
as_stream (tree.EventsType p y) = option_map expr_type.Stream (value_of y)
as_stream y = option_map expr_type.Stream (value_of y)

-- ---- types that may not stand where they do, each by its first token, in the order of the source
abbrev pub bad_key : TypeName → List Place
bad_key (tree.IntType p) = []
bad_key (tree.BoolType p) = []
bad_key (tree.TextType p) = []
bad_key y = type_place y ∷ []

abbrev pub bad_scalar : TypeName → List Place
bad_scalar (tree.UnitType p) = []
bad_scalar (tree.IntType p) = []
bad_scalar (tree.BoolType p) = []
bad_scalar (tree.TextType p) = []
bad_scalar y = type_place y ∷ []

-- in the brackets of an aggregate
abbrev pub bad_in : Aggregate → List Place
bad_in (tree.SetOf k) = bad_key k
bad_in (tree.MapOf k v) = bad_key k ++ bad_scalar v
bad_in (tree.QueueOf v) = bad_scalar v

-- inside another type: no stream and no option
abbrev pub bad_inside : TypeName → List Place
bad_inside (tree.AggregateType p a) = bad_in a
bad_inside (tree.OptionType p y) = p ∷ []
bad_inside (tree.EventsType p y) = p ∷ []
bad_inside y = []

abbrev pub bad_as_written : TypeName → List Place
bad_as_written (tree.EventsType p y) = bad_inside y
bad_as_written (tree.OptionType p y) = bad_inside y
bad_as_written y = bad_inside y

-- a stream of options is none
abbrev pub bad_as_stream : TypeName → List Place
bad_as_stream (tree.EventsType p y) = bad_inside y
bad_as_stream y = bad_inside y
