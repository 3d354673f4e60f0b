use Rattle.std.proofs.Common.{◌≡◌, ◌↔◌, ℕ, ◌+◌, ◌/◌, ◌<◌, ◌≤◌, length}
use Rattle.std.specs.Prelude.{IsTrue, IsFalse}
use Rattle.gate_circuits.specs.Circuit.{IsOn}
use Rattle.gate_circuits.specs.inner.Marks.{has}
use Rattle.gate_circuits.proofs.knowledge.model.Given as goal

abbrev pub invariant-loop-number : goal.invariant-loop-number
invariant-loop-number l = record {
  room : length l.on ≡ length l.gates / 64 + 1;
  below : (x : ℕ) → x < l.number → IsTrue (has l.on x) ↔ IsOn l.gates (has l.leaves) x;
  above : (x : ℕ) → l.number ≤ x → IsFalse (has l.on x);
}
