use Rattle.std.proofs.Common.{◌≡◌, ◌≤◌, ◌++◌, drop}
use Rattle.spec_meaning.specs.Shape.{operands}
use Rattle.stream_constructs.specs.Construct.{operand_trees}
use Rattle.stream_shapes.proofs.operands.operand_bodies.Given as goal

abbrev pub invariant-loop-expression : goal.invariant-loop-expression
invariant-loop-expression l = record {
  made : l.bodies.items ++ operand_trees l.number (operands (drop l.expression-index l.expressions)) ≡ operand_trees 0 (operands l.expressions);
  few : l.number ≤ l.expression-index;
}
