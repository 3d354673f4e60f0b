use Rattle.gate_circuits.specs.inner.Marks.{AreAdded}
use Rattle.gate_circuits.proofs.marks.Marks.add_each.Given as goal

abbrev pub invariant-loop-number : goal.invariant-loop-number
invariant-loop-number l = AreAdded l.numbers l.initial.self l.self l.number-index
