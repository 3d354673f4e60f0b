use Rattle.std.proofs.Common.{◌≡◌, ◌+◌, ◌*◌, drop}
use Rattle.syntax_tree.specs.inner.OneLevel.{exprs_of, links_in, expr_of, size_of, size_of_exprs, size_of_links}
use Rattle.name_check.specs.inner.Shown.{nowhere}
use Rattle.expr_types.specs.Judge.{types_of}
use Rattle.expr_types.specs.inner.Shown.{around_of}
use Rattle.expr_types.specs.inner.Steps.{argument_wrongs, link_wrongs, chain_verdict, joined}
use Rattle.expr_types.specs.inner.Answers.{types_in}
use Rattle.expr_types.proofs.judge.+judge.Given as goal

abbrev pub decreases-expression : goal.decreases-expression
decreases-expression l = 8 * size_of l.expression.now + 1

abbrev pub decreases-inner : goal.decreases-inner
decreases-inner l = 8 * size_of (expr_of nowhere l.node.now)

abbrev pub decreases-choice : goal.decreases-choice
decreases-choice l = 8 * (size_of l.condition.now + size_of l.yes.now + size_of l.no.now) + 2

abbrev pub decreases-comparison_of : goal.decreases-comparison_of
decreases-comparison_of l = 8 * (size_of l.left.now + size_of l.right.now) + 2

abbrev pub decreases-chain : goal.decreases-chain
decreases-chain l = 8 * (size_of l.first.now + size_of_links (links_in l.rest.now)) + 3

abbrev pub decreases-links : goal.decreases-links
decreases-links l = 8 * size_of_links (links_in l.links.now) + 2

abbrev pub decreases-call : goal.decreases-call
decreases-call l = 8 * size_of_exprs (exprs_of l.parts.now) + 4

abbrev pub decreases-lift : goal.decreases-lift
decreases-lift l = 8 * size_of_exprs (exprs_of l.parts.now) + 3

abbrev pub decreases-arguments : goal.decreases-arguments
decreases-arguments l = 8 * size_of_exprs (exprs_of l.parts.now) + 2

abbrev pub invariant-arguments-loop-part : goal.invariant-arguments-loop-part
invariant-arguments-loop-part l = record {
  fine : argument_wrongs (around_of l.at) (exprs_of l.parts) ≡ argument_wrongs (around_of l.at) (exprs_of (drop l.part-index l.parts));
  so_far : joined (types_in l.types) (types_of (around_of l.at) (exprs_of (drop l.part-index l.parts))) ≡ types_of (around_of l.at) (exprs_of l.parts);
}

abbrev pub invariant-links-loop-link : goal.invariant-links-loop-link
invariant-links-loop-link l = record {
  fine : link_wrongs (around_of l.at) (links_in l.links) ≡ link_wrongs (around_of l.at) (links_in (drop l.link-index l.links));
  so_far : chain_verdict (around_of l.at) l.level l.chained (links_in (drop l.link-index l.links)) ≡ chain_verdict (around_of l.at) l.level l.initial.chained (links_in l.links);
}
