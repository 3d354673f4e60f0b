use Rattle.gate_circuits.specs.inner.Search.{AreDivided}
use Rattle.gate_circuits.proofs.knowledge.Knowledge.summands.Given as goal

abbrev pub invariant-down : goal.invariant-down
invariant-down l = AreDivided l.self l.sum l.end l.marked l.summands.items

abbrev pub decreases-down : goal.decreases-down
decreases-down l = l.end
