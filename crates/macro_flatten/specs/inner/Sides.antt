-- Operands of chains: a literal, or the stream of what stands there.
use Rattle.std.specs.Prelude.{◌≡◌, ℕ, List, [], ◌∷◌, Option, Some, None, Result, Ok, Err}
use Rattle.tsl_value.specs.declared.scalar.Scalar.{Scalar}
use Rattle.flat_core.specs.System.{System}
use Rattle.lift_func.specs.BodyTree.{Two}
use Rattle.syntax_tree.specs.Tree.{Expr}
use Rattle.syntax_tree.specs.declared.tree.Operator.{Operator}
use Rattle.stream_constructs.specs.declared.construct.Stream.{Stream}
use Rattle.stream_constructs.specs.declared.maker.MakeFault.{MakeFault}
use Rattle.stream_constructs.specs.Construct.{Construct, operand_trees}
use Rattle.stream_constructs.specs.Construct as construct
use Rattle.spec_meaning.specs.Function.{literal, operation_of}
use Rattle.spec_meaning.specs.Shape.{operand, two_operands}
use Rattle.equation_marks.specs.Marks.{unless_literal}
use Rattle.macro_flatten.specs.declared.context.Context.{Context}
use Rattle.macro_flatten.specs.declared.context.Here.{Here}
use Rattle.macro_flatten.specs.declared.chain.Side.{Side}
use Rattle.macro_flatten.specs.declared.chain.Side.TheVariants as side
use Rattle.macro_flatten.specs.inner.Here.{IsHere, MayMakeAt, Site}
use Rattle.macro_flatten.specs.inner.Answers.{IsMadeAt, IsRefusedAfter, marks_at}

abbrev pub side_literal : Side → Option Scalar
side_literal (side.Fixed s) = Some s
side_literal (side.Varying a) = None

abbrev pub side_streams : Side → List Stream
side_streams (side.Fixed s) = []
side_streams (side.Varying a) = a ∷ []

-- an operator over two of them
abbrev pub link_construct : Operator → Side → Side → Construct
link_construct o left right =
    construct.Signal (two_operands (Two (operation_of o))
    (operand_trees 0 (operand (side_literal left) ∷ operand (side_literal right) ∷ [])))

-- an operand is a literal, which makes nothing, or its equations are made
abbrev pub IsSideMade : Site → ℕ → Expr → System → System → Side → Type 0
IsSideMade site deep e old new (side.Fixed s) = (literal e ≡ Some s) × (new ≡ old)
IsSideMade site deep e old new (side.Varying a) = (literal e ≡ None) × IsMadeAt site deep e old new a

abbrev pub IsSideAnswer : Site → ℕ → Expr → System → System → Result Side MakeFault → Type 0
IsSideAnswer site deep e old new (Ok s) = IsSideMade site deep e old new s
IsSideAnswer site deep e old new (Err f) = IsRefusedAfter old (unless_literal e (marks_at site deep e)) f

pub record IsSide (context : Context) (here : Here) (e : Expr) (old new : System) (result : Result Side MakeFault) : Type 0 where
  pub at : (site : Site) → IsHere context here site → MayMakeAt site here.deep e → IsSideAnswer site here.deep e old new result
