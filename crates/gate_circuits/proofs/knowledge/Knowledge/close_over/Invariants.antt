use Rattle.gate_circuits.specs.inner.Knowledge.{Follow}
use Rattle.gate_circuits.proofs.knowledge.Knowledge.close_over.Given as goal

abbrev pub invariant-loop-gate : goal.invariant-loop-gate
invariant-loop-gate l = Follow l.self l.initial.known l.known
