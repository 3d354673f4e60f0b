use Rattle.std.specs.Prelude.{IfSome}
use Rattle.trace_reader.specs.inner.Plain.{HasPlainInput}
use Rattle.trace_reader.proofs.inputs.sole_of.Given as goal

abbrev pub invariant-loop-number : goal.invariant-loop-number
invariant-loop-number l = IfSome l.sole (HasPlainInput l.flat)
