use Rattle.std.proofs.Common.{rules}
use Rattle.syntax_tree.proofs.Sizes.{argument_smaller, link_smaller}
use Rattle.function_bodies.proofs.expression.+expression.Goals as goal

pub operands-expression-requires : goal.operands-expression-requires
operands-expression-requires t c =
    let smaller = argument_smaller c.args.arguments.now c.loop-argument.argument-index c.argument-item.result c.loop-argument-test.true c.argument-item.is in
    search rules

pub chain-expression-requires-in-loop-link : goal.chain-expression-requires-in-loop-link
chain-expression-requires-in-loop-link t c =
    let smaller = link_smaller c.args.links.now c.loop-link.link-index c.link-item.result c.loop-link-test.true c.link-item.is in
    search rules
