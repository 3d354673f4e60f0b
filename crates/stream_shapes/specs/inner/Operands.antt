-- Operands of a body.
use Rattle.std.specs.Prelude.{ℕ, Option, Some, None}
use Rattle.tsl_value.specs.declared.scalar.Scalar.{Scalar}
use Rattle.lift_func.specs.BodyTree.{BodyTree, Literal, Argument}

-- a literal, or else the argument of this number
abbrev pub operand_tree : Option Scalar → ℕ → BodyTree
operand_tree (Some s) number = Literal s
operand_tree None number = Argument number

-- how many arguments it takes
abbrev pub argument_count : Option Scalar → ℕ
argument_count (Some s) = 0
argument_count None = 1
