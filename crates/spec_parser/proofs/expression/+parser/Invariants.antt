use Rattle.std.proofs.Common.{◌≡◌, ℕ, ◌+◌, ◌*◌, length}
use Rattle.token_reader.specs.inner.Reader.{many, with_list}
use Rattle.syntax_tree.specs.declared.tree.Level.{Level}
use Rattle.syntax_tree.specs.declared.tree.Level.TheVariants as level
use Rattle.syntax_tree.specs.inner.OneLevel.{links_in}
use Rattle.spec_parser.specs.inner.Reading.{links_of, others_of, within, operand_at}
use Rattle.syntax_tree.specs.inner.Joins.{join_exprs, join_links}
use Rattle.spec_parser.proofs.expression.+parser.Given as goal

-- weaker levels call stronger ones
abbrev rank : Level → ℕ
rank level.Product = 8
rank level.Sum = 11
rank level.Conjunction = 16
rank level.Disjunction = 19

abbrev pub decreases-within_room : goal.decreases-within_room
decreases-within_room l = 32 * l.room

abbrev pub decreases-any_expression : goal.decreases-any_expression
decreases-any_expression l = 32 * l.room + 25

abbrev pub decreases-choice : goal.decreases-choice
decreases-choice l = 32 * l.room + 3

abbrev pub decreases-then_branch : goal.decreases-then_branch
decreases-then_branch l = 32 * l.room + 2

abbrev pub decreases-else_branch : goal.decreases-else_branch
decreases-else_branch l = 32 * l.room + 1

abbrev pub decreases-chain : goal.decreases-chain
decreases-chain l = 32 * l.room + rank l.level + 2

abbrev pub decreases-more_links : goal.decreases-more_links
decreases-more_links l = 32 * l.room + rank l.level + 1

abbrev pub decreases-operand : goal.decreases-operand
decreases-operand l = 32 * l.room + rank l.level

abbrev pub decreases-one_comparison : goal.decreases-one_comparison
decreases-one_comparison l = 32 * l.room + 15

abbrev pub decreases-after_left : goal.decreases-after_left
decreases-after_left l = 32 * l.room + 14

abbrev pub decreases-unary : goal.decreases-unary
decreases-unary l = 32 * l.room + 7

abbrev pub decreases-parens : goal.decreases-parens
decreases-parens l = 32 * l.room + 2

abbrev pub decreases-minus : goal.decreases-minus
decreases-minus l = 32 * l.room + 1

abbrev pub decreases-negation : goal.decreases-negation
decreases-negation l = 32 * l.room + 1

abbrev pub decreases-inside : goal.decreases-inside
decreases-inside l = 32 * l.room + 1

abbrev pub decreases-opposite : goal.decreases-opposite
decreases-opposite l = 32 * l.room

abbrev pub decreases-name_after : goal.decreases-name_after
decreases-name_after l = 32 * l.room + 6

abbrev pub decreases-member_after_dot : goal.decreases-member_after_dot
decreases-member_after_dot l = 32 * l.room + 5

abbrev pub decreases-call_dotted : goal.decreases-call_dotted
decreases-call_dotted l = 32 * l.room + 4

abbrev pub decreases-call : goal.decreases-call
decreases-call l = 32 * l.room + 3

abbrev pub decreases-after_the_first : goal.decreases-after_the_first
decreases-after_the_first l = 32 * l.room + 2

abbrev pub decreases-more_arguments : goal.decreases-more_arguments
decreases-more_arguments l = 32 * l.room + 1

abbrev pub invariant-more_arguments-others : goal.invariant-more_arguments-others
invariant-more_arguments-others l = with_list (join_exprs l.all.items) (many (others_of (within l.room)) l.rest) ≡ with_list (join_exprs l.initial.all.items) (many (others_of (within l.room)) l.tokens)

abbrev pub decreases-more_arguments-others : goal.decreases-more_arguments-others
decreases-more_arguments-others l = length l.rest

abbrev pub invariant-more_links-links : goal.invariant-more_links-links
invariant-more_links-links l = with_list (join_links (links_in l.links.items)) (many (links_of l.level (operand_at l.level l.room)) l.rest) ≡ many (links_of l.level (operand_at l.level l.room)) l.tokens

abbrev pub decreases-more_links-links : goal.decreases-more_links-links
decreases-more_links-links l = length l.rest
