use Rattle.std.proofs.Common.{List}
use Rattle.gate_circuits.specs.declared.circuit.Gate.{Gate}
use Rattle.gate_circuits.specs.inner.Knowledge.{AreRowsImplied}
use Rattle.gate_circuits.proofs.knowledge.no_rows.Given as goal

abbrev pub invariant-rows : goal.invariant-rows
invariant-rows l = (gates : List Gate) → AreRowsImplied gates l.rows.items
