-- Expressions, one level or one part after the other.
use Rattle.std.proofs.Common.{◌≡◌, List, Option, refl, ap, ◌∙◌}
use Rattle.tsl_value.specs.declared.place.Place.{Place}
use Rattle.lift_func.specs.BodyTree.{BodyTree}
use Rattle.lift_func.specs.inner.Placed.{within}
use Rattle.syntax_tree.specs.Tree.{Expr, place_of}
use Rattle.syntax_tree.specs.declared.tree.Node.{Node}
use Rattle.syntax_tree.specs.declared.tree.Node.TheVariants as node
use Rattle.syntax_tree.specs.declared.tree.Link.{Link}
use Rattle.syntax_tree.specs.inner.OneLevel.{expr_of, links_in}
use Rattle.name_check.specs.inner.Shown.{nowhere}
use Rattle.function_bodies.specs.declared.around.Around.{Around}
use Rattle.function_bodies.specs.inner.Around.{tree_at, chain_at}

-- a tree does not say where its expression stands
tree_anywhere : (at : Around) (p q : Place) (n : Node) → tree_at at (expr_of p n) ≡ tree_at at (expr_of q n)
tree_anywhere at p q (node.If a b c) = refl
tree_anywhere at p q (node.Chain a b c) = refl
tree_anywhere at p q (node.Compare a b c) = refl
tree_anywhere at p q (node.Negate a) = refl
tree_anywhere at p q (node.Not a) = refl
tree_anywhere at p q (node.Number a) = refl
tree_anywhere at p q (node.Negative a) = refl
tree_anywhere at p q (node.Text a) = refl
tree_anywhere at p q (node.Boolean a) = refl
tree_anywhere at p q node.Unit = refl
tree_anywhere at p q (node.Name a) = refl
tree_anywhere at p q (node.Call a b) = refl
tree_anywhere at p q (node.CallDotted a b) = refl
tree_anywhere at p q (node.Nil a) = refl
tree_anywhere at p q (node.None a) = refl
tree_anywhere at p q (node.Empty a) = refl

pub tree_of_node : (at : Around) (e : Expr) (n : Node) → expr_of (place_of e) n ≡ e → tree_at at (expr_of nowhere n) ≡ tree_at at e
tree_of_node at e n is = tree_anywhere at nowhere (place_of e) n ∙ ap (tree_at at) is

-- ---- the operands of a chain: what is chained so far, and the links that are left
pub record IsChained (at : Around) (whole : BodyTree) (rest : List Link) (chained : Option BodyTree) : Type 0 where
  pub so_far : BodyTree
  pub is : chained ≡ within so_far
  pub goes_on : chain_at at so_far (links_in rest) ≡ whole
