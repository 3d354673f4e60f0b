use Rattle.std.proofs.Common.{◌≡◌, ◌++◌, drop, filter}
use Rattle.spec_meaning.specs.Shape.{is_part}
use Rattle.stream_shapes.specs.inner.Shape.{expressions_in}
use Rattle.stream_shapes.proofs.operands.varying.Given as goal

abbrev pub invariant-loop-expression : goal.invariant-loop-expression
invariant-loop-expression l = expressions_in l.found.items ++ filter is_part (expressions_in (drop l.expression-index l.expressions)) ≡ filter is_part (expressions_in l.expressions)
