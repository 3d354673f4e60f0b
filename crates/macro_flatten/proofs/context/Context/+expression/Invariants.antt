use Rattle.std.proofs.Common.{◌+◌, ◌*◌}
use Rattle.syntax_tree.specs.inner.OneLevel as code
use Rattle.syntax_tree.specs.inner.OneLevel.{definitions_of, exprs_of, links_in, size_of, size_of_exprs, size_of_links}
use Rattle.equation_marks.proofs.Weights.{block_weight, body_weight}
use Rattle.stream_shapes.specs.inner.Shape.{expressions_in}
use Rattle.macro_flatten.proofs.Linked.{IsBegun}
use Rattle.macro_flatten.proofs.Sizes.{room, total_size}
use Rattle.macro_flatten.proofs.Turns.{AreBegun, IsBlockBegun}
use Rattle.macro_flatten.proofs.context.Context.+expression.Given as goal

abbrev pub decreases-expression : goal.decreases-expression
decreases-expression l = l.here.now.deep * room l.self.now.items.now + (8 * size_of l.expression.now + 2)

abbrev pub decreases-construct : goal.decreases-construct
decreases-construct l = l.here.now.deep * room l.self.now.items.now + (8 * size_of l.expression.now + 1)

abbrev pub decreases-parts : goal.decreases-parts
decreases-parts l = l.here.now.deep * room l.self.now.items.now + (8 * total_size (expressions_in l.parts.now) + 3)

abbrev pub decreases-body : goal.decreases-body
decreases-body l = l.here.now.deep * room l.self.now.items.now + (8 * size_of l.expression.now + 3)

abbrev pub decreases-chain : goal.decreases-chain
decreases-chain l = l.here.now.deep * room l.self.now.items.now + (8 * (size_of l.first.now + size_of_links (links_in l.links.now)) + 4)

abbrev pub decreases-side : goal.decreases-side
decreases-side l = l.here.now.deep * room l.self.now.items.now + (8 * size_of l.operand.now + 3)

abbrev pub decreases-call : goal.decreases-call
decreases-call l = l.here.now.deep * room l.self.now.items.now + (8 * size_of_exprs (exprs_of l.arguments.now) + 4)

abbrev pub decreases-arguments : goal.decreases-arguments
decreases-arguments l = l.here.now.deep * room l.self.now.items.now + (8 * size_of_exprs (exprs_of l.arguments.now) + 3)

abbrev pub decreases-inside : goal.decreases-inside
decreases-inside l = l.deep * room l.self.now.items.now + (8 * body_weight (code.body_of l.parts.now.body) + 6)

abbrev pub decreases-block : goal.decreases-block
decreases-block l = l.here.now.deep * room l.self.now.items.now + (8 * block_weight (definitions_of l.definitions.now) + 5)

abbrev pub invariant-parts-loop-part : goal.invariant-parts-loop-part
invariant-parts-loop-part l = AreBegun l.self l.here (expressions_in l.parts) l.part-index l.fn.maker l.maker l.streams.items

abbrev pub invariant-arguments-loop-argument : goal.invariant-arguments-loop-argument
invariant-arguments-loop-argument l = AreBegun l.self l.here l.arguments l.argument-index l.fn.maker l.maker l.streams.items

abbrev pub invariant-block-loop-definition : goal.invariant-block-loop-definition
invariant-block-loop-definition l = IsBlockBegun l.self l.here l.definitions l.definition-index l.fn.maker l.maker

abbrev pub invariant-chain-loop-link : goal.invariant-chain-loop-link
invariant-chain-loop-link l = IsBegun l.self l.here l.place l.level l.first l.links l.link-index l.fn.maker l.maker l.left
