use Rattle.std.proofs.Common.{◌≡◌, ◌+◌, ◌*◌, ◌++◌, take}
use Rattle.spec_lexer.specs.declared.token.Symbol.TheVariants as symbol
use Rattle.syntax_tree.specs.inner.OneLevel.{exprs_of, links_in, expr_of, size_of, size_of_exprs, size_of_links}
use Rattle.spec_printer.specs.inner.Same.{nowhere}
use Rattle.spec_printer.specs.inner.Marks.{text_of}
use Rattle.spec_printer.specs.inner.Print.{link_marks, expr_marks_after}
use Rattle.spec_printer.proofs.Turns.{separator}
use Rattle.spec_printer.proofs.expression.+printer.Given as goal

abbrev pub decreases-put_expression : goal.decreases-put_expression
decreases-put_expression l = 8 * size_of l.expression.now + 1

abbrev pub decreases-put_operand : goal.decreases-put_operand
decreases-put_operand l = 8 * size_of l.expression.now + 2

abbrev pub decreases-put_node : goal.decreases-put_node
decreases-put_node l = 8 * size_of (expr_of nowhere l.node.now)

abbrev pub decreases-put_choice : goal.decreases-put_choice
decreases-put_choice l = 8 * (size_of l.condition.now + size_of l.yes.now + size_of l.no.now) + 3

abbrev pub decreases-put_chain : goal.decreases-put_chain
decreases-put_chain l = 8 * (size_of l.first.now + size_of_links (links_in l.links.now)) + 3

abbrev pub decreases-put_compared : goal.decreases-put_compared
decreases-put_compared l = 8 * (size_of l.left.now + size_of l.right.now) + 3

abbrev pub decreases-put_prefixed : goal.decreases-put_prefixed
decreases-put_prefixed l = 8 * size_of l.operand.now + 3

abbrev pub decreases-put_links : goal.decreases-put_links
decreases-put_links l = 8 * size_of_links (links_in l.links.now) + 2

abbrev pub decreases-put_arguments : goal.decreases-put_arguments
decreases-put_arguments l = 8 * size_of_exprs (exprs_of l.arguments.now) + 3

abbrev pub invariant-put_arguments-loop-argument : goal.invariant-put_arguments-loop-argument
invariant-put_arguments-loop-argument l = (l.before ≡ separator symbol.Open (take l.argument-index l.arguments)) × (l.out ≡ l.initial.out ++ text_of (expr_marks_after symbol.Open (exprs_of (take l.argument-index l.arguments))))

abbrev pub invariant-put_links-loop-link : goal.invariant-put_links-loop-link
invariant-put_links-loop-link l = l.out ≡ l.initial.out ++ text_of (link_marks l.least (links_in (take l.link-index l.links)))
