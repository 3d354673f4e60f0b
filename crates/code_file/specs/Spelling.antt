-- The one spelling of code, field by field. Of an equation that does not run only that it is there is spelled, unless it is an input.
use Rattle.std.specs.Prelude.{ℕ, Bool, true, false, if◌then◌else◌, List, [], ◌∷◌, ◌++◌, length, codes, Option, Some, None}
use Rattle.std.specs.Int.{w32, w64, cast_unsigned, to_be_bytes}
use Rattle.std.specs.List.{flat_map}
use Rattle.tsl_value.specs.declared.operation.Binary.{Binary}
use Rattle.tsl_value.specs.declared.operation.Binary.TheVariants as binary
use Rattle.tsl_value.specs.declared.operation.Unary.{Unary}
use Rattle.tsl_value.specs.declared.operation.Unary.TheVariants as unary
use Rattle.tsl_value.specs.declared.place.Place.{Place}
use Rattle.tsl_value.specs.declared.scalar.KeyType.{KeyType}
use Rattle.tsl_value.specs.declared.scalar.KeyType.TheVariants as key_type
use Rattle.tsl_value.specs.declared.scalar.Scalar.{Scalar}
use Rattle.tsl_value.specs.declared.scalar.Scalar.TheVariants as scalar
use Rattle.tsl_value.specs.declared.scalar.ScalarType.{ScalarType}
use Rattle.tsl_value.specs.declared.scalar.ScalarType.TheVariants as scalar_type
use Rattle.tsl_value.specs.declared.scalar.ValueType.{ValueType}
use Rattle.tsl_value.specs.declared.scalar.ValueType.TheVariants as value_type
use Rattle.tsl_value.specs.View.{type_of}
use Rattle.lift_func.specs.BodyTree.{BodyTree, Literal, Argument, Absent, One, Two, Choice}
use Rattle.flat_core.specs.declared.equation.Equation.{Equation}
use Rattle.flat_core.specs.declared.equation.Op.{Op}
use Rattle.flat_core.specs.declared.equation.Op.TheVariants as op
use Rattle.flat_core.specs.declared.equation.Output.{Output}
use Rattle.flat_core.specs.System.{System, equation, numbers, runs}
use Rattle.trace_reader.specs.Reading.{is_input}
use Rattle.register_code.specs.Code.{Code}
use Rattle.code_file.specs.declared.types.Operation.{Operation}
use Rattle.code_file.specs.declared.types.Operation.TheVariants as operation

-- ---- numbers and names

-- four bytes, the highest first
abbrev pub number : ℕ → List ℕ
number n = to_be_bytes w32 n

abbrev pub name_bytes : List ℕ → List ℕ
name_bytes name = number (length name) ++ name

-- no name has length 0
abbrev pub optional_name : Option (List ℕ) → List ℕ
optional_name None = number 0
optional_name (Some name) = name_bytes name

-- how many there are, and each
abbrev pub list_bytes : List ℕ → List ℕ
list_bytes ns = number (length ns) ++ flat_map number ns

-- ---- types

abbrev pub scalar_place : ScalarType → ℕ
scalar_place scalar_type.Unit = 0
scalar_place scalar_type.Int = 1
scalar_place scalar_type.Bool = 2
scalar_place scalar_type.Text = 3

abbrev pub key_place : KeyType → ℕ
key_place key_type.Int = 1
key_place key_type.Bool = 2
key_place key_type.Text = 3

abbrev pub type_bytes : ValueType → List ℕ
type_bytes (value_type.Scalar t) = scalar_place t ∷ []
type_bytes (value_type.Set k) = 4 ∷ key_place k ∷ []
type_bytes (value_type.Map k t) = 5 ∷ key_place k ∷ scalar_place t ∷ []
type_bytes (value_type.Queue t) = 6 ∷ scalar_place t ∷ []

-- ---- bodies

abbrev pub flag : Bool → List ℕ
flag false = 0 ∷ []
flag true = 1 ∷ []

-- eight bytes of length, and that many bytes
abbrev pub text_bytes : List ℕ → List ℕ
text_bytes bytes = to_be_bytes w64 (length bytes) ++ bytes

-- nothing for a unit, and eight bytes of two's complement for an Int
abbrev pub scalar_bytes : Scalar → List ℕ
scalar_bytes scalar.Unit = []
scalar_bytes (scalar.Int z) = to_be_bytes w64 (cast_unsigned w64 z)
scalar_bytes (scalar.Bool b) = flag b
scalar_bytes (scalar.Text bytes) = text_bytes bytes

-- the places of the operations of bodies
abbrev pub binary_place : Binary → ℕ
binary_place binary.Add = 0
binary_place binary.Sub = 1
binary_place binary.Mul = 2
binary_place binary.Div = 4
binary_place binary.Rem = 5
binary_place binary.Eq = 6
binary_place binary.Ne = 7
binary_place binary.Lt = 8
binary_place binary.Le = 9
binary_place binary.Gt = 10
binary_place binary.Ge = 11
binary_place binary.And = 13
binary_place binary.Or = 14
binary_place binary.Contains = 16
binary_place binary.Get = 18
binary_place binary.Concat = 19

abbrev pub unary_place : Unary → ℕ
unary_place unary.Neg = 3
unary_place unary.Not = 12
unary_place unary.Size = 17
unary_place unary.Length = 20
unary_place unary.Some = 21
unary_place unary.IsSome = 23
unary_place unary.IsNone = 24
unary_place unary.GetSome = 25
unary_place unary.Front = 26

abbrev pub operation_place : Operation → ℕ
operation_place operation.If = 15
operation_place operation.Absent = 22
operation_place (operation.One o) = unary_place o
operation_place (operation.Two o) = binary_place o

-- an argument, a literal, or an operation before its parts
abbrev pub body_bytes : BodyTree → List ℕ
body_bytes (Argument n) = 0 ∷ number n
body_bytes (Literal s) = 1 ∷ scalar_place (type_of s) ∷ scalar_bytes s
body_bytes (Absent t) = 2 ∷ operation_place operation.Absent ∷ type_bytes t
body_bytes (One o a) = 2 ∷ operation_place (operation.One o) ∷ body_bytes a
body_bytes (Two o a b) = 2 ∷ operation_place (operation.Two o) ∷ (body_bytes a ++ body_bytes b)
body_bytes (Choice c a b) = 2 ∷ operation_place operation.If ∷ (body_bytes c ++ (body_bytes a ++ body_bytes b))

-- ---- equations

abbrev pub op_place : Op → ℕ
op_place op.Input = 0
op_place op.Nil = 1
op_place op.Unit = 2
op_place (op.Lift body strict) = 3
op_place op.Any = 4
op_place op.Time = 5
op_place op.Last = 6
op_place op.Delay = 7
op_place op.Merge = 8
op_place op.Filter = 9
op_place op.Pick = 10
op_place op.Empty = 11
op_place op.MapAdd = 12
op_place op.MapRemove = 13
op_place op.SetAdd = 14
op_place op.SetRemove = 15
op_place op.QueueAdd = 16
op_place op.QueueTake = 17

-- what stands after the arguments
abbrev pub lift_bytes : Op → List ℕ
lift_bytes (op.Lift body strict) = flag strict ++ body_bytes body
lift_bytes _ = []

abbrev pub place_bytes : Place → List ℕ
place_bytes p = number p.line ++ number p.column

-- operation and type, the place in the source, the name, the arguments, and the body
abbrev pub head_bytes : Equation → List ℕ
head_bytes e = op_place e.op ∷ (type_bytes e.of ++ (place_bytes e.place ++ optional_name e.name))

abbrev pub fields : Equation → List ℕ
fields e = head_bytes e ++ (list_bytes e.args ++ lift_bytes e.op)

-- an equation that runs, an input that does not, or another that does not
abbrev pub entry_bytes : Bool → Equation → List ℕ
entry_bytes true e = 1 ∷ fields e
entry_bytes false e = if is_input e.op then 2 ∷ fields e else 0 ∷ []

abbrev pub entry_in : Bool → Option Equation → List ℕ
entry_in runs None = []
entry_in runs (Some e) = entry_bytes runs e

abbrev pub entry_at : System → ℕ → List ℕ
entry_at s i = entry_in (runs s i) (equation s i)

abbrev pub equations_bytes : System → List ℕ
equations_bytes s = number (length s.equations) ++ flat_map (entry_at s) (numbers s)

-- ---- the whole

abbrev pub output_bytes : Output → List ℕ
output_bytes o = name_bytes o.name ++ number o.equation

abbrev pub outputs_bytes : List Output → List ℕ
outputs_bytes outputs = number (length outputs) ++ flat_map output_bytes outputs

abbrev pub mark : List ℕ
mark = codes "TSLCOD1\n"

abbrev pub spelling : Code → List ℕ
spelling c = mark ++ (equations_bytes c.system ++ (outputs_bytes c.system.outputs ++ (list_bytes c.in_place ++ list_bytes c.order)))
