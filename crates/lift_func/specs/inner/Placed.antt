-- Trees in the place of arguments, and trees that are small enough for a body.
use Rattle.std.specs.Prelude.{ℕ, leb, if◌then◌else◌, List, Option, Some, None, slice_index_or}
use Rattle.tsl_value.specs.declared.scalar.Scalar.TheVariants as scalar
use Rattle.lift_func.specs.declared.limits.TheConstants.{MOST_NODES}
use Rattle.tsl_value.specs.declared.operation.Unary.{Unary}
use Rattle.tsl_value.specs.declared.operation.Binary.{Binary}
use Rattle.lift_func.specs.BodyTree.{BodyTree, Literal, Argument, Absent, One, Two, Choice, node_count}

-- the tree with these trees in the place of its arguments; an argument past their end becomes unit
abbrev pub placed : List BodyTree → BodyTree → BodyTree
placed ts (Literal s) = Literal s
placed ts (Argument n) = slice_index_or ts n (Literal scalar.Unit)
placed ts (Absent t) = Absent t
placed ts (One o a) = One o (placed ts a)
placed ts (Two o a b) = Two o (placed ts a) (placed ts b)
placed ts (Choice c a b) = Choice (placed ts c) (placed ts a) (placed ts b)

-- the tree, if a body may have so many nodes
abbrev pub within : BodyTree → Option BodyTree
within t = if leb (node_count t) MOST_NODES then Some t else None

-- a number of nodes that a body may have
abbrev pub limited : ℕ → Option ℕ
limited n = if leb n MOST_NODES then Some n else None

-- ---- the same of parts that are small enough
abbrev pub one_within : Unary → Option BodyTree → Option BodyTree
one_within o (Some a) = within (One o a)
one_within o None = None

abbrev pub two_within : Binary → Option BodyTree → Option BodyTree → Option BodyTree
two_within o (Some a) (Some b) = within (Two o a b)
two_within o a b = None

abbrev pub choice_within : Option BodyTree → Option BodyTree → Option BodyTree → Option BodyTree
choice_within (Some c) (Some a) (Some b) = within (Choice c a b)
choice_within c a b = None

abbrev pub placed_within : List (Option BodyTree) → BodyTree → Option BodyTree
placed_within ts (Literal s) = Some (Literal s)
placed_within ts (Argument n) = slice_index_or ts n (Some (Literal scalar.Unit))
placed_within ts (Absent t) = Some (Absent t)
placed_within ts (One o a) = one_within o (placed_within ts a)
placed_within ts (Two o a b) = two_within o (placed_within ts a) (placed_within ts b)
placed_within ts (Choice c a b) = choice_within (placed_within ts c) (placed_within ts a) (placed_within ts b)
