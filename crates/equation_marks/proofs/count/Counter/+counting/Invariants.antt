use Rattle.std.proofs.Common.{◌≡◌, ℕ, ◌+◌, ◌*◌, map, drop}
use Rattle.std.specs.List.{flat_map, filter}
use Rattle.tsl_value.specs.declared.place.Place.{Place}
use Rattle.syntax_tree.specs.inner.OneLevel.{definitions_of, exprs_of, links_in, item_of, size_of, size_of_exprs, size_of_links}
use Rattle.syntax_tree.specs.inner.OneLevel as code
use Rattle.expr_types.specs.inner.Shown.{around_of}
use Rattle.spec_meaning.specs.Shape.{is_part}
use Rattle.equation_marks.specs.Marks.{marks, link_marks, block_marks}
use Rattle.equation_marks.specs.inner.Counted.{counted}
use Rattle.equation_marks.specs.inner.Counters.{calls_of}
use Rattle.equation_marks.specs.declared.count.Counter.{Counter}
use Rattle.equation_marks.proofs.Weights.{items_weight, block_weight, body_weight}
use Rattle.equation_marks.proofs.count.Counter.+counting.Given as goal

-- what calls that nest so deep may add
abbrev calls_weight : Counter → ℕ → ℕ
calls_weight c deep = deep * (16 * items_weight (map item_of c.items.now))

abbrev pub decreases-expression : goal.decreases-expression
decreases-expression l = calls_weight l.self.now l.deep + 16 * size_of l.expression.now

abbrev pub decreases-operand : goal.decreases-operand
decreases-operand l = calls_weight l.self.now l.deep + 16 * size_of l.operand.now + 1

abbrev pub decreases-body : goal.decreases-body
decreases-body l = calls_weight l.self.now l.deep + 16 * size_of l.expression.now + 2

abbrev pub decreases-chain : goal.decreases-chain
decreases-chain l = calls_weight l.self.now l.deep + 16 * (size_of l.first.now + size_of_links (links_in l.links.now)) + 3

abbrev pub decreases-links : goal.decreases-links
decreases-links l = calls_weight l.self.now l.deep + 16 * size_of_links (links_in l.links.now) + 2

abbrev pub decreases-all : goal.decreases-all
decreases-all l = calls_weight l.self.now l.deep + 16 * size_of_exprs (exprs_of l.expressions.now) + 2

abbrev pub decreases-operands : goal.decreases-operands
decreases-operands l = calls_weight l.self.now l.deep + 16 * size_of_exprs (exprs_of l.operands.now) + 2

abbrev pub decreases-call : goal.decreases-call
decreases-call l = calls_weight l.self.now l.deep + 16 * size_of_exprs (exprs_of l.arguments.now) + 3

abbrev pub decreases-callee_count : goal.decreases-callee_count
decreases-callee_count l = calls_weight l.self.now l.deep + 15

abbrev pub decreases-inside : goal.decreases-inside
decreases-inside l = calls_weight l.self.now l.deep + 16 * body_weight (code.body_of l.parts.now.body) + 4

abbrev pub decreases-block : goal.decreases-block
decreases-block l = calls_weight l.self.now l.deep + 16 * block_weight (definitions_of l.definitions.now) + 3

abbrev pub invariant-all-loop-expression : goal.invariant-all-loop-expression
invariant-all-loop-expression l =
    counted l.count (flat_map (marks (around_of l.at) (calls_of l.self l.deep)) (drop l.expression-index l.expressions)) ≡ counted l.initial.count (flat_map (marks (around_of l.at) (calls_of l.self l.deep)) l.expressions)

abbrev pub invariant-operands-loop-operand : goal.invariant-operands-loop-operand
invariant-operands-loop-operand l =
    counted l.count (flat_map (marks (around_of l.at) (calls_of l.self l.deep)) (filter is_part (drop l.operand-index l.operands))) ≡ counted l.initial.count (flat_map (marks (around_of l.at) (calls_of l.self l.deep)) (filter is_part l.operands))

abbrev pub invariant-links-loop-link : goal.invariant-links-loop-link
invariant-links-loop-link l =
    (p : Place) → counted l.count (link_marks (around_of l.at) (calls_of l.self l.deep) p (links_in (drop l.link-index l.links))) ≡ counted l.initial.count (link_marks (around_of l.at) (calls_of l.self l.deep) p (links_in l.links))

abbrev pub invariant-block-loop-definition : goal.invariant-block-loop-definition
invariant-block-loop-definition l =
    counted l.count (block_marks (around_of l.at) (calls_of l.self l.deep) (definitions_of (drop l.definition-index l.definitions))) ≡ counted l.initial.count (block_marks (around_of l.at) (calls_of l.self l.deep) (definitions_of l.definitions))
