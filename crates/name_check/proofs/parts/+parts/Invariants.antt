use Rattle.std.proofs.Common.{◌≡◌, ◌+◌, ◌*◌, ◌++◌, drop}
use Rattle.syntax_tree.specs.inner.OneLevel.{exprs_of, links_in, expr_of, size_of, size_of_exprs, size_of_links}
use Rattle.name_check.specs.Parts.{argument_parts, link_parts}
use Rattle.name_check.specs.inner.Shown.{parts_in, nowhere}
use Rattle.name_check.proofs.parts.+parts.Given as goal

abbrev pub decreases-add_parts : goal.decreases-add_parts
decreases-add_parts l = 8 * size_of l.expression.now + 1

abbrev pub decreases-add_inner : goal.decreases-add_inner
decreases-add_inner l = 8 * size_of (expr_of nowhere l.node.now)

abbrev pub decreases-add_call : goal.decreases-add_call
decreases-add_call l = 8 * size_of_exprs (exprs_of l.arguments.now) + 4

abbrev pub decreases-add_lift : goal.decreases-add_lift
decreases-add_lift l = 8 * size_of_exprs (exprs_of l.arguments.now) + 3

abbrev pub decreases-add_arguments : goal.decreases-add_arguments
decreases-add_arguments l = 8 * size_of_exprs (exprs_of l.arguments.now) + 2

abbrev pub decreases-add_links : goal.decreases-add_links
decreases-add_links l = 8 * size_of_links (links_in l.links.now) + 2

abbrev pub invariant-add_arguments-loop-argument : goal.invariant-add_arguments-loop-argument
invariant-add_arguments-loop-argument l = parts_in l.out.items ++ argument_parts (exprs_of (drop l.argument-index l.arguments)) ≡ parts_in l.initial.out.items ++ argument_parts (exprs_of l.arguments)

abbrev pub invariant-add_links-loop-link : goal.invariant-add_links-loop-link
invariant-add_links-loop-link l = parts_in l.out.items ++ link_parts (links_in (drop l.link-index l.links)) ≡ parts_in l.initial.out.items ++ link_parts (links_in l.links)
