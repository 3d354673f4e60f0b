use Rattle.gate_circuits.specs.inner.Knowledge.{AreModels}
use Rattle.gate_circuits.proofs.knowledge.Knowledge.guess_all.Given as goal

abbrev pub invariant-loop-number : goal.invariant-loop-number
invariant-loop-number l = AreModels l.self l.models.items
