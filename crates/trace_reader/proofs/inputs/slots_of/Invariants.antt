use Rattle.trace_reader.specs.inner.Plain.{ArePlainInputs}
use Rattle.trace_reader.proofs.inputs.slots_of.Given as goal

abbrev pub invariant-loop-number : goal.invariant-loop-number
invariant-loop-number l = ArePlainInputs l.flat l.slots.items
