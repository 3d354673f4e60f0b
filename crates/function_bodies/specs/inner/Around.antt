-- What the code makes of an expression in a value function, from the bodies that are there.
use Rattle.std.specs.Prelude.{ℕ, zero, suc, List, Option, Some, None, slice_index_or}
use Rattle.tsl_value.specs.declared.scalar.Scalar.TheVariants as scalar
use Rattle.lift_func.specs.declared.limits.TheConstants.{MOST_NODES}
use Rattle.tsl_value.specs.declared.operation.Unary.{Unary}
use Rattle.tsl_value.specs.declared.operation.Unary.TheVariants as unary
use Rattle.tsl_value.specs.declared.operation.Binary.{Binary}
use Rattle.lift_func.specs.BodyTree.{BodyTree, Literal, One, Two}
use Rattle.lift_func.specs.inner.Placed.{placed}
use Rattle.syntax_tree.specs.Tree.{Expr, Exprs, Links}
use Rattle.syntax_tree.specs.inner.OneLevel.{params_in}
use Rattle.name_check.specs.Scope.{seen}
use Rattle.spec_meaning.specs.Function.{no_tree, arguments_from, tree_of, trees_of, chain_tree}
use Rattle.function_bodies.specs.declared.around.Around.{Around}

-- ---- calls, from bodies of which the ones that are too large are missing
abbrev pub negated : ℕ → BodyTree
negated zero = Literal scalar.Unit
negated (suc n) = One unary.Neg (negated n)

-- a tree that is too large for a body stands for each of those
unfoldable pub too_large : BodyTree
too_large = negated MOST_NODES

abbrev pub tree_or : Option BodyTree → BodyTree
tree_or None = too_large
tree_or (Some t) = t

abbrev pub call_of : List (Option BodyTree) → ℕ → List BodyTree → BodyTree
call_of functions i ts = placed ts (tree_or (slice_index_or functions i None))

-- ---- expressions there
module _ (at : Around) where
  abbrev pub args_at : List BodyTree
  args_at = arguments_from 0 (params_in at.params.now)

  abbrev pub tree_at : Expr → BodyTree
  tree_at e = tree_of (seen at.scope.now) args_at (call_of at.functions.now) e

  abbrev pub trees_at : Exprs → List BodyTree
  trees_at es = trees_of (seen at.scope.now) args_at (call_of at.functions.now) es

  abbrev pub chain_at : BodyTree → Links → BodyTree
  chain_at t ls = chain_tree (seen at.scope.now) args_at (call_of at.functions.now) t ls

-- an operation that there may be
abbrev pub one_or : Option Unary → BodyTree → BodyTree
one_or None a = no_tree
one_or (Some o) a = One o a

abbrev pub two_or : Option Binary → BodyTree → BodyTree → BodyTree
two_or None a b = no_tree
two_or (Some o) a b = Two o a b
