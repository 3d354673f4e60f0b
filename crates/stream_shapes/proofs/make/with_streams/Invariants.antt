use Rattle.stream_shapes.proofs.OperandLemmas.{AreGiven}
use Rattle.stream_shapes.proofs.make.with_streams.Given as goal

abbrev pub invariant-loop-literal : goal.invariant-loop-literal
invariant-loop-literal l = AreGiven l.fn.literals.items l.streams l.operands.items l.literal-iterator.rest.items l.next
