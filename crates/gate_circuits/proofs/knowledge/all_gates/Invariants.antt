use Rattle.std.proofs.Common.{◌≡◌, ℕ, ◌+◌, ◌/◌, ◌<◌, length}
use Rattle.std.specs.Prelude.{IsTrue}
use Rattle.gate_circuits.specs.inner.Marks.{has}
use Rattle.gate_circuits.proofs.knowledge.all_gates.Given as goal

abbrev pub invariant-loop-number : goal.invariant-loop-number
invariant-loop-number l = record {
  room : length l.all ≡ l.count / 64 + 1;
  there : (x : ℕ) → x < l.number → IsTrue (has l.all x);
}
