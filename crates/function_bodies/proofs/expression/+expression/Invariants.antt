use Rattle.std.proofs.Common.{◌≡◌, ◌+◌, ◌*◌, ◌++◌, map, drop}
use Rattle.lift_func.specs.inner.Placed.{within}
use Rattle.syntax_tree.specs.inner.OneLevel.{expr_of, exprs_of, links_in, size_of, size_of_exprs, size_of_links}
use Rattle.name_check.specs.inner.Shown.{nowhere}
use Rattle.function_bodies.specs.inner.Around.{tree_at, trees_at, chain_at}
use Rattle.function_bodies.proofs.WalkLemmas.{IsChained}
use Rattle.function_bodies.proofs.expression.+expression.Given as goal

abbrev pub decreases-expression : goal.decreases-expression
decreases-expression l = 8 * size_of l.expression.now + 1

abbrev pub decreases-inner : goal.decreases-inner
decreases-inner l = 8 * size_of (expr_of nowhere l.node.now)

abbrev pub decreases-unary : goal.decreases-unary
decreases-unary l = 8 * size_of l.operand.now + 2

abbrev pub decreases-binary : goal.decreases-binary
decreases-binary l = 8 * (size_of l.left.now + size_of l.right.now) + 2

abbrev pub decreases-choice : goal.decreases-choice
decreases-choice l = 8 * (size_of l.condition.now + size_of l.yes.now + size_of l.no.now) + 2

abbrev pub decreases-chain : goal.decreases-chain
decreases-chain l = 8 * (size_of l.first.now + size_of_links (links_in l.links.now)) + 2

abbrev pub decreases-call : goal.decreases-call
decreases-call l = 8 * size_of_exprs (exprs_of l.arguments.now) + 4

abbrev pub decreases-option_call : goal.decreases-option_call
decreases-option_call l = 8 * size_of_exprs (exprs_of l.arguments.now) + 3

abbrev pub decreases-dotted : goal.decreases-dotted
decreases-dotted l = 8 * size_of_exprs (exprs_of l.arguments.now) + 3

abbrev pub decreases-operands : goal.decreases-operands
decreases-operands l = 8 * size_of_exprs (exprs_of l.arguments.now) + 2

abbrev pub invariant-operands-loop-argument : goal.invariant-operands-loop-argument
invariant-operands-loop-argument l = l.bodies.items ++ map within (trees_at l.at (exprs_of (drop l.argument-index l.arguments))) ≡ map within (trees_at l.at (exprs_of l.arguments))

abbrev pub invariant-chain-loop-link : goal.invariant-chain-loop-link
invariant-chain-loop-link l = IsChained l.at (chain_at l.at (tree_at l.at l.first) (links_in l.links)) (drop l.link-index l.links) l.chained
