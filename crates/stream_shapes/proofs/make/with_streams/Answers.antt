use Rattle.std.proofs.Common.{rules}
use Rattle.stream_shapes.proofs.OperandLemmas.{given_fixed, given_varying}
use Rattle.stream_shapes.proofs.make.with_streams.Goals as goal

pub loop-literal-preserved-in-Continue-1 : goal.loop-literal-preserved-in-Continue-1
loop-literal-preserved-in-Continue-1 c =
    given_fixed c.args.literals.items c.args.streams.now c.loop-literal.operands.items _ c.loop-literal.literal-iterator.rest.items _ c.loop-literal.next c.in-Some.literal c.in-Some-literal.s c.loop-literal.invariant (search rules) (search rules) (search rules)

pub loop-literal-preserved : goal.loop-literal-preserved
loop-literal-preserved c =
    given_varying c.args.literals.items c.args.streams.now c.loop-literal.operands.items _ c.loop-literal.literal-iterator.rest.items _ c.loop-literal.next c.in-Some.literal c.index-streams-next.result c.loop-literal.invariant (search rules) (search rules) c.index-streams-next.is (search rules)
