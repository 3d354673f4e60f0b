-- Reading code from left to right: a value and the bytes after it, or nothing where the bytes spell none.
use Rattle.std.specs.Prelude.{◌==◌, ◌&&◌, ◌+◌, ℕ, zero, suc, Bool, true, false, if◌then◌else◌, nat_le, nat_lt, List}
use Rattle.std.specs.Prelude.{[], ◌∷◌, length, map, take, drop, Option}
use Rattle.std.specs.Prelude.{Some, None}
use Rattle.std.specs.Int.{w32, w64, cast_signed, from_be_bytes}
use Rattle.std.specs.Str.{is_utf8}
use Rattle.tsl_value.specs.declared.limits.TheConstants.{MOST_TEXT_BYTES}
use Rattle.tsl_value.specs.declared.operation.Binary.TheVariants as binary
use Rattle.tsl_value.specs.declared.operation.Unary.TheVariants as unary
use Rattle.tsl_value.specs.declared.place.Place.{Place}
use Rattle.tsl_value.specs.declared.scalar.KeyType.{KeyType}
use Rattle.tsl_value.specs.declared.scalar.KeyType.TheVariants as key_type
use Rattle.tsl_value.specs.declared.scalar.Scalar.{Scalar}
use Rattle.tsl_value.specs.declared.scalar.Scalar.TheVariants as scalar
use Rattle.tsl_value.specs.declared.scalar.ScalarType.{ScalarType}
use Rattle.tsl_value.specs.declared.scalar.ScalarType.TheVariants as scalar_type
use Rattle.tsl_value.specs.declared.scalar.ValueType.{ValueType}
use Rattle.tsl_value.specs.declared.scalar.ValueType.TheVariants as value_type
use Rattle.spec_lexer.specs.declared.limits.TheConstants.{MOST_NAME_BYTES}
use Rattle.lift_func.specs.declared.limits.TheConstants.{MOST_NODES}
use Rattle.lift_func.specs.BodyTree.{BodyTree, Literal, Argument, Absent, One, Two, Choice, node_count}
use Rattle.flat_core.specs.declared.equation.Equation.{Equation}
use Rattle.flat_core.specs.declared.equation.Op.{Op}
use Rattle.flat_core.specs.declared.equation.Op.TheVariants as op
use Rattle.flat_core.specs.declared.equation.Output.{Output}
use Rattle.flat_core.specs.declared.limits.TheConstants.{MOST_EQUATIONS}
use Rattle.trace_reader.specs.Form.{is_name}
use Rattle.trace_reader.specs.Reading.{is_input}
use Rattle.register_code.specs.Code.{Code}
use Rattle.code_file.specs.declared.types.Operation.{Operation}
use Rattle.code_file.specs.declared.types.Operation.TheVariants as operation
use Rattle.code_file.specs.Form.{nothing}
use Rattle.code_file.specs.Spelling.{key_place, op_place, operation_place, scalar_place}

infixl 10 ◌>>=◌
abbrev pub ◌>>=◌ : {A B : Type 0} → Option A → (A → Option B) → Option B
(Some x) >>= f = f x
None >>= f = None

-- a value, and the bytes after it
abbrev pub Read : Type 0 → Type 0
Read A = Option (A × List ℕ)

-- ---- numbers and names

-- so many bytes
abbrev pub bytes_at : ℕ → List ℕ → Read (List ℕ)
bytes_at n bytes = if nat_lt (length bytes) n then None else Some (take n bytes, drop n bytes)

abbrev pub number_at : List ℕ → Read ℕ
number_at bytes = if nat_lt (length bytes) 4 then None else Some (from_be_bytes w32 (take 4 bytes), drop 4 bytes)

abbrev pub wide_at : List ℕ → Read ℕ
wide_at bytes = if nat_lt (length bytes) 8 then None else Some (from_be_bytes w64 (take 8 bytes), drop 8 bytes)

abbrev pub if_name : List ℕ → Option (List ℕ)
if_name name = if is_name name && nat_le (length name) MOST_NAME_BYTES then Some name else None

-- the name of so many bytes
abbrev pub named_at : ℕ → List ℕ → Read (List ℕ)
named_at n bytes = bytes_at n bytes >>= λ p. if_name p.0 >>= λ name. Some (name, p.1)

unfoldable pub name_at : List ℕ → Read (List ℕ)
name_at bytes = number_at bytes >>= λ n. named_at n.0 n.1

unfoldable pub optional_name_at : List ℕ → Read (Option (List ℕ))
optional_name_at bytes = do
  n ← number_at bytes
  if n.0 == 0 then Some (None, n.1) else (named_at n.0 n.1 >>= λ name. Some (Some name.0, name.1))

-- so many items, one after the other
unfoldable pub items_at : {A : Type 0} → (List ℕ → Read A) → ℕ → List ℕ → Read (List A)
items_at item_at zero bytes = Some ([], bytes)
items_at item_at (suc n) bytes = item_at bytes >>= λ first. items_at item_at n first.1 >>= λ others. Some (first.0 ∷ others.0, others.1)

unfoldable pub list_at : List ℕ → Read (List ℕ)
list_at bytes = number_at bytes >>= λ n. items_at number_at n.0 n.1

-- ---- types

-- the first of these that has a place
abbrev pub at_place : {A : Type 0} → (A → ℕ) → List A → ℕ → Option A
at_place place [] b = None
at_place place (x ∷ xs) b = if b == place x then Some x else at_place place xs b

abbrev pub scalar_types : List ScalarType
scalar_types = scalar_type.Unit ∷ scalar_type.Int ∷ scalar_type.Bool ∷ scalar_type.Text ∷ []

unfoldable pub scalar_type_of : ℕ → Option ScalarType
scalar_type_of b = at_place scalar_place scalar_types b

abbrev pub key_types : List KeyType
key_types = key_type.Int ∷ key_type.Bool ∷ key_type.Text ∷ []

unfoldable pub key_type_of : ℕ → Option KeyType
key_type_of b = at_place key_place key_types b

-- what a byte stands for
abbrev pub byte_at : {A : Type 0} → (ℕ → Option A) → List ℕ → Read A
byte_at of [] = None
byte_at of (b ∷ rest) = of b >>= λ x. Some (x, rest)

abbrev pub type_after : ℕ → List ℕ → Read ValueType
type_after b rest =
    if b == 4 then (byte_at key_type_of rest >>= λ k. Some (value_type.Set k.0, k.1))
    else if b == 5 then (byte_at key_type_of rest >>= λ k. byte_at scalar_type_of k.1 >>= λ t. Some (value_type.Map k.0 t.0, t.1))
    else if b == 6 then (byte_at scalar_type_of rest >>= λ t. Some (value_type.Queue t.0, t.1))
    else (scalar_type_of b >>= λ t. Some (value_type.Scalar t, rest))

unfoldable pub type_at : List ℕ → Read ValueType
type_at [] = None
type_at (b ∷ rest) = type_after b rest

-- ---- bodies

abbrev pub flag_at : List ℕ → Read Bool
flag_at (zero ∷ rest) = Some (false, rest)
flag_at (suc zero ∷ rest) = Some (true, rest)
flag_at _ = None

abbrev pub if_text : List ℕ → Option Scalar
if_text bytes = if is_utf8 bytes && nat_le (length bytes) MOST_TEXT_BYTES then Some (scalar.Text bytes) else None

unfoldable pub text_at : List ℕ → Read Scalar
text_at bytes = wide_at bytes >>= λ n. bytes_at n.0 n.1 >>= λ t. if_text t.0 >>= λ s. Some (s, t.1)

unfoldable pub scalar_at : ScalarType → List ℕ → Read Scalar
scalar_at scalar_type.Unit bytes = Some (scalar.Unit, bytes)
scalar_at scalar_type.Int bytes = wide_at bytes >>= λ n. Some (scalar.Int (cast_signed w64 n.0), n.1)
scalar_at scalar_type.Bool bytes = flag_at bytes >>= λ b. Some (scalar.Bool b.0, b.1)
scalar_at scalar_type.Text bytes = text_at bytes

abbrev pub operations : List Operation
operations =
    operation.Two binary.Add ∷ operation.Two binary.Sub ∷ operation.Two binary.Mul ∷ operation.One unary.Neg ∷ operation.Two binary.Div
    ∷ operation.Two binary.Rem ∷ operation.Two binary.Eq ∷ operation.Two binary.Ne ∷ operation.Two binary.Lt ∷ operation.Two binary.Le
    ∷ operation.Two binary.Gt ∷ operation.Two binary.Ge ∷ operation.One unary.Not ∷ operation.Two binary.And ∷ operation.Two binary.Or
    ∷ operation.If ∷ operation.Two binary.Contains ∷ operation.One unary.Size ∷ operation.Two binary.Get ∷ operation.Two binary.Concat
    ∷ operation.One unary.Length ∷ operation.One unary.Some ∷ operation.Absent ∷ operation.One unary.IsSome ∷ operation.One unary.IsNone
    ∷ operation.One unary.GetSome ∷ operation.One unary.Front ∷ []

unfoldable pub operation_of : ℕ → Option Operation
operation_of b = at_place operation_place operations b

-- no more nodes than a body may have
abbrev pub if_few : BodyTree → Option BodyTree
if_few t = if nat_le (node_count t) MOST_NODES then Some t else None

abbrev pub few_at : BodyTree → List ℕ → Read BodyTree
few_at t bytes = if_few t >>= λ u. Some (u, bytes)

-- an operation's parts
unfoldable pub parts_at : (List ℕ → Read BodyTree) → Operation → List ℕ → Read BodyTree
parts_at part operation.Absent bytes = type_at bytes >>= λ t. Some (Absent t.0, t.1)
parts_at part (operation.One o) bytes = part bytes >>= λ a. few_at (One o a.0) a.1
parts_at part (operation.Two o) bytes = part bytes >>= λ a. part a.1 >>= λ b. few_at (Two o a.0 b.0) b.1
parts_at part operation.If bytes = part bytes >>= λ c. part c.1 >>= λ a. part a.1 >>= λ b. few_at (Choice c.0 a.0 b.0) b.1

abbrev pub argument_at : List ℕ → Read BodyTree
argument_at bytes = number_at bytes >>= λ n. Some (Argument n.0, n.1)

abbrev pub literal_at : List ℕ → Read BodyTree
literal_at bytes = byte_at scalar_type_of bytes >>= λ t. scalar_at t.0 t.1 >>= λ s. Some (Literal s.0, s.1)

abbrev pub node_at : (List ℕ → Read BodyTree) → List ℕ → Read BodyTree
node_at part (zero ∷ rest) = argument_at rest
node_at part (suc zero ∷ rest) = literal_at rest
node_at part (suc (suc zero) ∷ rest) = byte_at operation_of rest >>= λ o. parts_at part o.0 o.1
node_at part _ = None

-- a body that is no deeper than there is room
unfoldable pub body_at : ℕ → List ℕ → Read BodyTree
body_at zero bytes = None
body_at (suc room) bytes = node_at (body_at room) bytes

-- ---- equations

-- the operations without a body
abbrev pub plain_ops : List Op
plain_ops =
    op.Input ∷ op.Nil ∷ op.Unit ∷ op.Any ∷ op.Time ∷ op.Last ∷ op.Delay ∷ op.Merge ∷ op.Filter ∷ op.Pick ∷ op.Empty ∷ op.MapAdd
    ∷ op.MapRemove ∷ op.SetAdd ∷ op.SetRemove ∷ op.QueueAdd ∷ op.QueueTake ∷ []

unfoldable pub plain_op_of : ℕ → Option Op
plain_op_of b = at_place op_place plain_ops b

abbrev pub lift_at : List ℕ → Read Op
lift_at bytes = flag_at bytes >>= λ strict. body_at MOST_NODES strict.1 >>= λ body. Some (op.Lift body.0 strict.0, body.1)

-- the operation of a byte, with the body that stands after the arguments
unfoldable pub op_at : ℕ → List ℕ → Read Op
op_at b bytes = if b == 3 then lift_at bytes else (plain_op_of b >>= λ o. Some (o, bytes))

unfoldable pub place_at : List ℕ → Read Place
place_at bytes = number_at bytes >>= λ line. number_at line.1 >>= λ column. Some (record { line = line.0; column = column.0 }, column.1)

-- an equation after the byte of its operation
unfoldable pub fields_after : ℕ → List ℕ → Read Equation
fields_after b bytes = do
  of ← type_at bytes
  place ← place_at of.1
  name ← optional_name_at place.1
  args ← list_at name.1
  o ← op_at b args.1
  Some (record { op = o.0; args = args.0; of = of.0; place = place.0; name = name.0 }, o.1)

abbrev pub fields_at : List ℕ → Read Equation
fields_at [] = None
fields_at (b ∷ rest) = fields_after b rest

abbrev pub if_input : Equation × List ℕ → Read (Bool × Equation)
if_input p = if is_input p.0.op then Some ((false, p.0), p.1) else None

abbrev pub idle_at : List ℕ → Read (Bool × Equation)
idle_at bytes = fields_at bytes >>= if_input

-- an equation, and whether it runs
unfoldable pub entry_read : List ℕ → Read (Bool × Equation)
entry_read (zero ∷ rest) = Some ((false, nothing), rest)
entry_read (suc zero ∷ rest) = fields_at rest >>= λ e. Some ((true, e.0), e.1)
entry_read (suc (suc zero) ∷ rest) = idle_at rest
entry_read _ = None

-- ---- the whole

unfoldable pub output_at : List ℕ → Read Output
output_at bytes = name_at bytes >>= λ name. number_at name.1 >>= λ e. Some (record { name = name.0; equation = e.0 }, e.1)

-- a number that is not above a limit
abbrev pub count_at : ℕ → List ℕ → Read ℕ
count_at most bytes = number_at bytes >>= λ n. if nat_le n.0 most then Some n else None

-- the numbers of the equations that run
abbrev pub running_from : ℕ → List (Bool × Equation) → List ℕ
running_from i [] = []
running_from i (p ∷ entries) = if p.0 then i ∷ running_from (i + 1) entries else running_from (i + 1) entries

abbrev pub code_of : List (Bool × Equation) → List Output → List ℕ → List ℕ → Code
code_of entries outputs in_place order = record {
  system = record { equations = map (λ p. p.1) entries; outputs = outputs; running = running_from 0 entries };
  in_place = in_place;
  order = order;
}

-- what stands after the mark
unfoldable pub code_at : List ℕ → Read Code
code_at bytes = do
  equations ← count_at MOST_EQUATIONS bytes
  entries ← items_at entry_read equations.0 equations.1
  outputs ← count_at 0x8000_0000 entries.1
  each ← items_at output_at outputs.0 outputs.1
  in_place ← list_at each.1
  order ← list_at in_place.1
  Some (code_of entries.0 each.0 in_place.0 order.0, order.1)
