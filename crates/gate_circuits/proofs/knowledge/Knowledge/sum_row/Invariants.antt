use Rattle.std.proofs.Common.{ℕ, ◌<◌, get_or}
use Rattle.std.specs.Prelude.{IsTrue}
use Rattle.gate_circuits.specs.Circuit.{Implies}
use Rattle.gate_circuits.specs.inner.Marks.{has}
use Rattle.gate_circuits.specs.inner.Knowledge.{AreRefuted}
use Rattle.gate_circuits.proofs.knowledge.Knowledge.sum_row.Given as goal

abbrev pub invariant-inputs : goal.invariant-inputs
invariant-inputs l = record {
  known : (b : ℕ) → IsTrue (has l.known b) → (k : ℕ) → k < l.input-index → Implies l.self (get_or l.inputs k 0) b;
  off : AreRefuted l.self l.gate l.off;
}
