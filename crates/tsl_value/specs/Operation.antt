-- How each operation of value functions is called where a body is printed.
use Rattle.std.specs.Prelude.{ℕ, List, codes}
use Rattle.tsl_value.specs.declared.operation.Unary.{Unary}
use Rattle.tsl_value.specs.declared.operation.Unary.TheVariants as unary
use Rattle.tsl_value.specs.declared.operation.Binary.{Binary}
use Rattle.tsl_value.specs.declared.operation.Binary.TheVariants as binary

abbrev pub unary_name : Unary → List ℕ
unary_name unary.Neg = codes "neg"
unary_name unary.Not = codes "not"
unary_name unary.Size = codes "size"
unary_name unary.Front = codes "front"
unary_name unary.Length = codes "length"
unary_name unary.Some = codes "some"
unary_name unary.IsSome = codes "issome"
unary_name unary.IsNone = codes "isnone"
unary_name unary.GetSome = codes "getsome"

abbrev pub binary_name : Binary → List ℕ
binary_name binary.Add = codes "add"
binary_name binary.Sub = codes "sub"
binary_name binary.Mul = codes "mul"
binary_name binary.Div = codes "div"
binary_name binary.Rem = codes "rem"
binary_name binary.Eq = codes "eq"
binary_name binary.Ne = codes "ne"
binary_name binary.Lt = codes "lt"
binary_name binary.Le = codes "le"
binary_name binary.Gt = codes "gt"
binary_name binary.Ge = codes "ge"
binary_name binary.And = codes "and"
binary_name binary.Or = codes "or"
binary_name binary.Contains = codes "contains"
binary_name binary.Get = codes "get"
binary_name binary.Concat = codes "concat"
