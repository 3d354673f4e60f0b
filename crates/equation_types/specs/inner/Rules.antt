-- The rules of typing as tables that compute.
use Rattle.std.specs.Prelude.{ℕ, Bool, true, false, ◌&&◌, not, if◌then◌else◌, List}
use Rattle.std.specs.Prelude.{[], ◌∷◌, length, Option, Some, None, nat_le, slice_get}
use Rattle.std.specs.Option.{option_map}
use Rattle.tsl_value.specs.Aggregate.{is_aggregate}
use Rattle.tsl_value.specs.View.{type_of}
use Rattle.tsl_value.specs.declared.operation.Unary.{Unary}
use Rattle.tsl_value.specs.declared.operation.Unary.TheVariants as unary
use Rattle.tsl_value.specs.declared.operation.Binary.{Binary}
use Rattle.tsl_value.specs.declared.operation.Binary.TheVariants as binary
use Rattle.tsl_value.specs.declared.scalar.KeyType.{KeyType}
use Rattle.tsl_value.specs.declared.scalar.KeyType.TheVariants as key_type
use Rattle.tsl_value.specs.declared.scalar.ScalarType.{ScalarType}
use Rattle.tsl_value.specs.declared.scalar.ScalarType.TheVariants as scalar_type
use Rattle.tsl_value.specs.declared.scalar.ValueType.{ValueType}
use Rattle.tsl_value.specs.declared.scalar.ValueType.TheVariants as value_type
use Rattle.lift_func.specs.BodyTree.{BodyTree, Literal, Argument, Absent, One, Two, Choice}
use Rattle.lift_func.specs.Typing.{scalar_of}
use Rattle.flat_core.specs.Typed.{unit_type, int_type, bool_type}
use Rattle.flat_core.specs.declared.equation.Op.{Op}
use Rattle.flat_core.specs.declared.equation.Op.TheVariants as op
use Rattle.equation_types.specs.declared.kind.Kind.{Kind}
use Rattle.equation_types.specs.declared.kind.Kind.TheVariants as kind

-- ---- one type
abbrev pub is_scalar : ScalarType → ScalarType → Bool
is_scalar scalar_type.Unit scalar_type.Unit = true
is_scalar scalar_type.Int scalar_type.Int = true
is_scalar scalar_type.Bool scalar_type.Bool = true
is_scalar scalar_type.Text scalar_type.Text = true
is_scalar _ _ = false

abbrev pub is_key : KeyType → KeyType → Bool
is_key key_type.Int key_type.Int = true
is_key key_type.Bool key_type.Bool = true
is_key key_type.Text key_type.Text = true
is_key _ _ = false

abbrev pub is_type : ValueType → ValueType → Bool
is_type (value_type.Scalar s) (value_type.Scalar t) = is_scalar s t
is_type (value_type.Set k) (value_type.Set l) = is_key k l
is_type (value_type.Map k s) (value_type.Map l t) = is_key k l && is_scalar s t
is_type (value_type.Queue s) (value_type.Queue t) = is_scalar s t
is_type _ _ = false

abbrev pub is_kind : Kind → Kind → Bool
is_kind (kind.Value s) (kind.Value t) = is_type s t
is_kind (kind.Optional s) (kind.Optional t) = is_type s t
is_kind _ _ = false

-- ---- bodies
abbrev pub plain : ScalarType → Kind
plain t = kind.Value (value_type.Scalar t)

abbrev pub kind_at : Bool → ValueType → Kind
kind_at true of = kind.Value of
kind_at false of = kind.Optional of

-- a kind where a test holds
abbrev pub where_so : Bool → Kind → Option Kind
where_so b k = if b then Some k else None

-- what an operation makes of an operand
abbrev pub of_one : Unary → Kind → Option Kind
of_one unary.Neg (kind.Value t) = where_so (is_type t int_type) (plain scalar_type.Int)
of_one unary.Not (kind.Value t) = where_so (is_type t bool_type) (plain scalar_type.Bool)
of_one unary.Size (kind.Value t) = where_so (is_aggregate t) (plain scalar_type.Int)
of_one unary.Front (kind.Value (value_type.Queue x)) = Some (plain x)
of_one unary.Length (kind.Value t) = where_so (is_type t (value_type.Scalar scalar_type.Text)) (plain scalar_type.Int)
of_one unary.Some (kind.Value t) = Some (kind.Optional t)
of_one unary.IsSome (kind.Optional t) = Some (plain scalar_type.Bool)
of_one unary.IsNone (kind.Optional t) = Some (plain scalar_type.Bool)
of_one unary.GetSome (kind.Optional t) = Some (kind.Value t)
of_one _ _ = None

-- what is made of two scalars of a type
abbrev pub of_both : ScalarType → ScalarType → Kind → Kind → Option Kind
of_both asked made a b = where_so (is_kind a (plain asked) && is_kind b (plain asked)) (plain made)

-- of two scalars of one type
abbrev pub of_equals : Kind → Kind → Option Kind
of_equals (kind.Value (value_type.Scalar t)) b = where_so (is_kind b (plain t)) (plain scalar_type.Bool)
of_equals _ b = None

-- of a set or a map, and a key
abbrev pub of_member : Kind → Kind → Option Kind
of_member (kind.Value (value_type.Set k)) b = where_so (is_kind b (plain (scalar_of k))) (plain scalar_type.Bool)
of_member (kind.Value (value_type.Map k x)) b = where_so (is_kind b (plain (scalar_of k))) (plain scalar_type.Bool)
of_member _ b = None

-- of a map and a key
abbrev pub of_entry : Kind → Kind → Option Kind
of_entry (kind.Value (value_type.Map k x)) b = where_so (is_kind b (plain (scalar_of k))) (plain x)
of_entry _ b = None

-- what an operation makes of two operands
abbrev pub of_two : Binary → Kind → Kind → Option Kind
of_two binary.Add a b = of_both scalar_type.Int scalar_type.Int a b
of_two binary.Sub a b = of_both scalar_type.Int scalar_type.Int a b
of_two binary.Mul a b = of_both scalar_type.Int scalar_type.Int a b
of_two binary.Div a b = of_both scalar_type.Int scalar_type.Int a b
of_two binary.Rem a b = of_both scalar_type.Int scalar_type.Int a b
of_two binary.Eq a b = of_equals a b
of_two binary.Ne a b = of_equals a b
of_two binary.Lt a b = of_both scalar_type.Int scalar_type.Bool a b
of_two binary.Le a b = of_both scalar_type.Int scalar_type.Bool a b
of_two binary.Gt a b = of_both scalar_type.Int scalar_type.Bool a b
of_two binary.Ge a b = of_both scalar_type.Int scalar_type.Bool a b
of_two binary.And a b = of_both scalar_type.Bool scalar_type.Bool a b
of_two binary.Or a b = of_both scalar_type.Bool scalar_type.Bool a b
of_two binary.Contains a b = of_member a b
of_two binary.Get a b = of_entry a b
of_two binary.Concat a b = of_both scalar_type.Text scalar_type.Text a b

-- a choice between two of one kind
abbrev pub of_choice : Kind → Kind → Kind → Option Kind
of_choice c a b = where_so (is_kind c (plain scalar_type.Bool) && is_kind b a) a

-- of parts that have a kind
abbrev pub if_one : Unary → Option Kind → Option Kind
if_one o None = None
if_one o (Some a) = of_one o a

abbrev pub if_two : Binary → Option Kind → Option Kind → Option Kind
if_two o None b = None
if_two o (Some a) None = None
if_two o (Some a) (Some b) = of_two o a b

abbrev pub if_three : Option Kind → Option Kind → Option Kind → Option Kind
if_three None a b = None
if_three (Some c) None b = None
if_three (Some c) (Some a) None = None
if_three (Some c) (Some a) (Some b) = of_choice c a b

-- the kind of a body at arguments of these types, if it has one
abbrev pub kind_in : List ValueType → Bool → BodyTree → Option Kind
kind_in types strict (Literal s) = Some (plain (type_of s))
kind_in types strict (Argument n) = option_map (kind_at strict) (slice_get types n)
kind_in types strict (Absent t) = Some (kind.Optional t)
kind_in types strict (One o a) = if_one o (kind_in types strict a)
kind_in types strict (Two o a b) = if_two o (kind_in types strict a) (kind_in types strict b)
kind_in types strict (Choice c a b) = if_three (kind_in types strict c) (kind_in types strict a) (kind_in types strict b)

-- ---- operations, by the number of their arguments
abbrev pub is_queue : ValueType → Bool
is_queue (value_type.Queue x) = true
is_queue _ = false

-- a key of a set, a key of a map, and a value of a queue
abbrev pub is_member : ValueType → ValueType → Bool
is_member (value_type.Set k) a = is_type a (value_type.Scalar (scalar_of k))
is_member _ a = false

abbrev pub is_map_key : ValueType → ValueType → Bool
is_map_key (value_type.Map k x) a = is_type a (value_type.Scalar (scalar_of k))
is_map_key _ a = false

abbrev pub is_element : ValueType → ValueType → Bool
is_element (value_type.Queue x) a = is_type a (value_type.Scalar x)
is_element _ a = false

-- a value of a map
abbrev pub is_map_value : ValueType → ValueType → Bool
is_map_value (value_type.Map k x) a = is_type a (value_type.Scalar x)
is_map_value _ a = false

abbrev pub takes_none : Op → ValueType → Bool
takes_none op.Input of = not (is_aggregate of)
takes_none op.Nil of = true
takes_none op.Unit of = is_type of unit_type
takes_none op.Empty of = is_aggregate of
takes_none _ of = false

abbrev pub takes_one : Op → ValueType → ValueType → Bool
takes_one op.Time a of = is_type of int_type
takes_one op.QueueTake a of = is_queue of && is_type a of
takes_one _ a of = false

abbrev pub takes_two : Op → ValueType → ValueType → ValueType → Bool
takes_two op.Last a b of = is_type a of
takes_two op.Delay a b of = is_type a int_type && is_type of unit_type
takes_two op.Merge a b of = is_type a of && is_type b of
takes_two op.Filter a b of = is_type a of && is_type b bool_type
takes_two op.SetAdd a b of = is_type a of && is_member of b
takes_two op.SetRemove a b of = is_type a of && is_member of b
takes_two op.MapRemove a b of = is_type a of && is_map_key of b
takes_two op.QueueAdd a b of = is_type a of && is_element of b
takes_two _ a b of = false

abbrev pub takes_three : Op → ValueType → ValueType → ValueType → ValueType → Bool
takes_three op.Pick a b c of = is_type a bool_type && is_type b of && is_type c of && is_aggregate of
takes_three op.MapAdd a b c of = is_type a of && is_map_key of b && is_map_value of c
takes_three _ a b c of = false

abbrev pub takes : Op → List ValueType → ValueType → Bool
takes o [] of = takes_none o of
takes o (a ∷ []) of = takes_one o a of
takes o (a ∷ b ∷ []) of = takes_two o a b of
takes o (a ∷ b ∷ c ∷ []) of = takes_three o a b c of
takes o _ of = false

-- at least so many and at most eight
abbrev pub are_several : ℕ → List ValueType → Bool
are_several least types = nat_le least (length types) && nat_le (length types) 8

abbrev pub has_kind : Option Kind → Kind → Bool
has_kind None k = false
has_kind (Some j) k = is_kind j k

abbrev pub lifts : BodyTree → Bool → List ValueType → ValueType → Bool
lifts body strict types of = not (is_aggregate of) && are_several 1 types && has_kind (kind_in types strict body) (kind_at strict of)

abbrev pub is_typed_op : Op → List ValueType → ValueType → Bool
is_typed_op op.Any types of = are_several 3 types && is_type of unit_type
is_typed_op (op.Lift body strict) types of = lifts body strict types of
is_typed_op o types of = takes o types of
