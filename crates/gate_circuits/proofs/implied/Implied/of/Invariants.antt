use Rattle.std.proofs.Common.{◌≡◌, length}
use Rattle.gate_circuits.specs.inner.Knowledge.{AreModels, AreRowsRefuted}
use Rattle.gate_circuits.proofs.implied.Implied.of.Given as goal

abbrev pub invariant-firsts : goal.invariant-firsts
invariant-firsts l = record {
  same : l.knowledge ≡ l.initial.knowledge;
  models : AreModels l.knowledge l.models.items;
  refuted : AreRowsRefuted l.knowledge l.refuted.items;
  count : length l.refuted.items ≡ l.gate;
}
