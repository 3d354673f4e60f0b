-- The bodies of value functions, and which of them are too large.
use Rattle.std.specs.Prelude.{◌≡◌, ℕ, suc, ltb, ◌&&◌, if◌then◌else◌, List, [], ◌∷◌, ◌++◌, length, Option, None, slice_get, slice_index_or}
use Rattle.tsl_value.specs.declared.place.Place.{Place}
use Rattle.lift_func.specs.declared.limits.TheConstants.{MOST_NODES}
use Rattle.lift_func.specs.BodyTree.{BodyTree, node_count}
use Rattle.lift_func.specs.inner.Placed.{placed, within}
use Rattle.syntax_tree.specs.Tree as tree
use Rattle.name_check.specs.Scope.{are_values}
use Rattle.syntax_tree.specs.Tree.{params_of}
use Rattle.spec_meaning.specs.Function.{function_at, function_body}
use Rattle.function_bodies.specs.inner.Calls.{IsFunction}

-- the body of item i, if it is a value function whose body has not too many nodes
abbrev pub body_at : List tree.Item → ℕ → Option BodyTree
body_at items i = if are_values (params_of (slice_get items i)) then within (function_body items i) else None

-- each item has its body, and a call of a value function is its body with the operands in the place of its arguments
pub record AreBodies (items : List tree.Item) (bodies : List (Option BodyTree)) : Type 0 where
  pub count : length bodies ≡ length items
  pub at : (i : ℕ) → slice_index_or bodies i None ≡ body_at items i
  pub placed : (i : ℕ) (ts : List BodyTree) → IsFunction items i → function_at items i ts ≡ placed ts (function_body items i)

-- ---- the names of value functions whose bodies have too many nodes, in the order of the source
abbrev pub too_large_in : List tree.Item → ℕ → tree.Item → List Place
too_large_in items i (tree.Defined p (tree.Define q n ps w b)) =
    if are_values ps && ltb MOST_NODES (node_count (function_body items i)) then q ∷ [] else []
too_large_in items i item = []

abbrev pub too_large_from : List tree.Item → ℕ → List tree.Item → List Place
too_large_from items i [] = []
too_large_from items i (item ∷ rest) = too_large_in items i item ++ too_large_from items (suc i) rest

abbrev pub too_large_bodies : List tree.Item → List Place
too_large_bodies items = too_large_from items 0 items
