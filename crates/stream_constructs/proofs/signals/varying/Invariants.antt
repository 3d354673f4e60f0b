use Rattle.std.proofs.Common.{◌≡◌, ◌++◌, drop}
use Rattle.stream_constructs.specs.Made.{varying_of}
use Rattle.stream_constructs.proofs.signals.varying.Given as goal

abbrev pub invariant-loop-operand : goal.invariant-loop-operand
invariant-loop-operand l = l.streams.items ++ varying_of (drop l.operand-index l.operands) ≡ varying_of l.operands
