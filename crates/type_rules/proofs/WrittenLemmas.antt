-- Where a written type stands for nothing.
use Rattle.std.specs.Prelude.{◌≡◌, is_some, is_none, slice_get, refl}
use Rattle.std.specs.Option.{option_map}
use Rattle.tsl_value.specs.declared.scalar.KeyType.{KeyType}
use Rattle.tsl_value.specs.declared.scalar.KeyType.TheVariants as key_type
use Rattle.tsl_value.specs.declared.scalar.ValueType.{ValueType}
use Rattle.tsl_value.specs.declared.scalar.ValueType.TheVariants as value_type
use Rattle.syntax_tree.specs.Tree as tree
use Rattle.syntax_tree.specs.Tree.{TypeName, Aggregate}
use Rattle.type_rules.specs.declared.rule.ExprType.{ExprType}
use Rattle.type_rules.specs.declared.rule.ExprType.TheVariants as expr_type
use Rattle.type_rules.specs.Written.{key_of, scalar_of, aggregate_of, value_of, as_written, as_stream, bad_key, bad_scalar, bad_in, bad_inside, bad_as_written, bad_as_stream}
use Rattle.type_rules.specs.inner.Laws.{WrittenOrBad, StreamOrBad}

-- the type around makes a type of another kind of it
of_set : (f : ValueType → ExprType) (k : TypeName) → is_some (option_map f (option_map value_type.Set (key_of k))) ≡ is_none (slice_get (bad_key k) 0)
of_set f (tree.UnitType p) = refl
of_set f (tree.IntType p) = refl
of_set f (tree.BoolType p) = refl
of_set f (tree.TextType p) = refl
of_set f (tree.AggregateType p a) = refl
of_set f (tree.OptionType p y) = refl
of_set f (tree.EventsType p y) = refl

of_entry : (f : ValueType → ExprType) (k : KeyType) (v : TypeName) → is_some (option_map f (option_map (value_type.Map k) (scalar_of v))) ≡ is_none (slice_get (bad_scalar v) 0)
of_entry f key (tree.UnitType p) = refl
of_entry f key (tree.IntType p) = refl
of_entry f key (tree.BoolType p) = refl
of_entry f key (tree.TextType p) = refl
of_entry f key (tree.AggregateType p a) = refl
of_entry f key (tree.OptionType p y) = refl
of_entry f key (tree.EventsType p y) = refl

of_element : (f : ValueType → ExprType) (v : TypeName) → is_some (option_map f (option_map value_type.Queue (scalar_of v))) ≡ is_none (slice_get (bad_scalar v) 0)
of_element f (tree.UnitType p) = refl
of_element f (tree.IntType p) = refl
of_element f (tree.BoolType p) = refl
of_element f (tree.TextType p) = refl
of_element f (tree.AggregateType p a) = refl
of_element f (tree.OptionType p y) = refl
of_element f (tree.EventsType p y) = refl

of_aggregate : (f : ValueType → ExprType) (a : Aggregate) → is_some (option_map f (aggregate_of a)) ≡ is_none (slice_get (bad_in a) 0)
of_aggregate f (tree.SetOf k) = of_set f k
of_aggregate f (tree.MapOf (tree.UnitType q) v) = refl
of_aggregate f (tree.MapOf (tree.IntType q) v) = of_entry f key_type.Int v
of_aggregate f (tree.MapOf (tree.BoolType q) v) = of_entry f key_type.Bool v
of_aggregate f (tree.MapOf (tree.TextType q) v) = of_entry f key_type.Text v
of_aggregate f (tree.MapOf (tree.AggregateType q a) v) = refl
of_aggregate f (tree.MapOf (tree.OptionType q x) v) = refl
of_aggregate f (tree.MapOf (tree.EventsType q x) v) = refl
of_aggregate f (tree.QueueOf v) = of_element f v

-- a type that stands inside another one
of_inside : (f : ValueType → ExprType) (y : TypeName) → is_some (option_map f (value_of y)) ≡ is_none (slice_get (bad_inside y) 0)
of_inside f (tree.UnitType p) = refl
of_inside f (tree.IntType p) = refl
of_inside f (tree.BoolType p) = refl
of_inside f (tree.TextType p) = refl
of_inside f (tree.AggregateType p a) = of_aggregate f a
of_inside f (tree.OptionType p y) = refl
of_inside f (tree.EventsType p y) = refl

pub written_or_bad : WrittenOrBad
written_or_bad (tree.UnitType p) = of_inside expr_type.Value (tree.UnitType p)
written_or_bad (tree.IntType p) = of_inside expr_type.Value (tree.IntType p)
written_or_bad (tree.BoolType p) = of_inside expr_type.Value (tree.BoolType p)
written_or_bad (tree.TextType p) = of_inside expr_type.Value (tree.TextType p)
written_or_bad (tree.AggregateType p a) = of_inside expr_type.Value (tree.AggregateType p a)
written_or_bad (tree.OptionType p y) = of_inside expr_type.Optional y
written_or_bad (tree.EventsType p y) = of_inside expr_type.Stream y

pub stream_or_bad : StreamOrBad
stream_or_bad (tree.UnitType p) = of_inside expr_type.Stream (tree.UnitType p)
stream_or_bad (tree.IntType p) = of_inside expr_type.Stream (tree.IntType p)
stream_or_bad (tree.BoolType p) = of_inside expr_type.Stream (tree.BoolType p)
stream_or_bad (tree.TextType p) = of_inside expr_type.Stream (tree.TextType p)
stream_or_bad (tree.AggregateType p a) = of_inside expr_type.Stream (tree.AggregateType p a)
stream_or_bad (tree.OptionType p y) = of_inside expr_type.Stream (tree.OptionType p y)
stream_or_bad (tree.EventsType p y) = of_inside expr_type.Stream y
