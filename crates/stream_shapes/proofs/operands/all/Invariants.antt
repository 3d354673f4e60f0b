use Rattle.std.proofs.Common.{◌≡◌, ◌++◌, drop}
use Rattle.stream_shapes.specs.inner.Shape.{expressions_in}
use Rattle.stream_shapes.proofs.operands.all.Given as goal

abbrev pub invariant-loop-expression : goal.invariant-loop-expression
invariant-loop-expression l = expressions_in l.found.items ++ drop l.expression-index l.expressions ≡ l.expressions
