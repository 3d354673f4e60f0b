-- The operations of value functions: of which sort each is, and whether it can fault.
use Rattle.std.specs.Prelude.{Bool, true, false}
use Rattle.tsl_value.specs.declared.scalar.ScalarType.{ScalarType}
use Rattle.tsl_value.specs.declared.scalar.ScalarType.TheVariants as scalar_type
use Rattle.tsl_value.specs.declared.operation.Unary.{Unary}
use Rattle.tsl_value.specs.declared.operation.Unary.TheVariants as unary
use Rattle.tsl_value.specs.declared.operation.Binary.{Binary}
use Rattle.tsl_value.specs.declared.operation.Binary.TheVariants as binary

-- ---- sorts: on two Ints, on two scalars of one type, on two Bools, and on two texts
abbrev pub is_arithmetic : Binary → Bool
is_arithmetic binary.Add = true
is_arithmetic binary.Sub = true
is_arithmetic binary.Mul = true
is_arithmetic binary.Div = true
is_arithmetic binary.Rem = true
is_arithmetic _ = false

abbrev pub is_order : Binary → Bool
is_order binary.Lt = true
is_order binary.Le = true
is_order binary.Gt = true
is_order binary.Ge = true
is_order _ = false

abbrev pub is_equality : Binary → Bool
is_equality binary.Eq = true
is_equality binary.Ne = true
is_equality _ = false

abbrev pub is_logic : Binary → Bool
is_logic binary.And = true
is_logic binary.Or = true
is_logic _ = false

abbrev pub is_on_texts : Binary → Bool
is_on_texts binary.Concat = true
is_on_texts _ = false

-- what an operation on two texts gives
abbrev pub made_of_texts : Binary → ScalarType
made_of_texts binary.Concat = scalar_type.Text
made_of_texts _ = scalar_type.Bool

-- ---- whether an operation can fault
abbrev pub can_fault_one : Unary → Bool
can_fault_one unary.Neg = true
can_fault_one unary.Size = true
can_fault_one unary.Front = true
can_fault_one unary.GetSome = true
can_fault_one _ = false

abbrev pub can_fault_two : Binary → Bool
can_fault_two binary.Get = true
can_fault_two binary.Concat = true
can_fault_two o = is_arithmetic o
