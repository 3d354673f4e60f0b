use Rattle.std.proofs.Common.{◌≡◌, ◌++◌, drop, length}
use Rattle.stream_constructs.specs.Equations.{numbers, literal_equations, operand_numbers}
use Rattle.stream_constructs.specs.Made.{HasFirst, with_equations, operands_of, varying_count}
use Rattle.stream_constructs.proofs.maker.Maker.operand_args.Given as goal

abbrev pub invariant-loop-operand : goal.invariant-loop-operand
invariant-loop-operand l = record {
  made : with_equations l.self (literal_equations l.place l.first (operands_of (drop l.operand-index l.operands))) ≡ with_equations l.fn.self (literal_equations l.place l.first (operands_of l.operands));
  begun : HasFirst l.fn.self (literal_equations l.place l.first (operands_of l.operands)) l.self;
  args : l.args ++ operand_numbers (length l.self.equations) (operands_of (drop l.operand-index l.operands)) (numbers (drop l.next l.lifted_streams)) ≡ operand_numbers (length l.fn.self.equations) (operands_of l.operands) (numbers l.lifted_streams);
  count : varying_count (operands_of (drop l.operand-index l.operands)) ≡ length (drop l.next l.lifted_streams);
}
