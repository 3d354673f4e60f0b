use Rattle.std.proofs.Common.{ℕ, List}
use Rattle.std.specs.Prelude.{IsTrue, IsFalse}
use Rattle.gate_circuits.specs.declared.circuit.Gate.{Gate}
use Rattle.gate_circuits.specs.inner.Marks.{has}
use Rattle.gate_circuits.specs.inner.Knowledge.{AreModels, IsRefuted}
use Rattle.gate_circuits.proofs.deciding.keep_by_models.Given as goal

abbrev pub invariant-models : goal.invariant-models
invariant-models l = record {
  kept : (b : ℕ) → IsTrue (has l.left b) → IsTrue (has l.initial.left b);
  refuted : (gates : List Gate) → AreModels gates l.models → (b : ℕ) → IsTrue (has l.initial.left b) → IsFalse (has l.left b) → IsRefuted gates l.gate b;
}
