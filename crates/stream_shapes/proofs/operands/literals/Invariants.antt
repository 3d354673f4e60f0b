use Rattle.std.proofs.Common.{◌≡◌, ◌++◌, drop, map}
use Rattle.spec_meaning.specs.Shape.{operand, operands}
use Rattle.stream_shapes.proofs.operands.literals.Given as goal

abbrev pub invariant-loop-expression : goal.invariant-loop-expression
invariant-loop-expression l = map operand l.found.items ++ operands (drop l.expression-index l.expressions) ≡ operands l.expressions
