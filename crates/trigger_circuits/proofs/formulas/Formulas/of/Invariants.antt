use Rattle.std.proofs.Common.{◌≡◌, length, take}
use Rattle.trigger_circuits.specs.inner.Circuits.{AreOnWhereMet, AreThere, IsBegun}
use Rattle.trigger_circuits.proofs.formulas.Formulas.of.Given as goal

abbrev pub invariant-loop-step : goal.invariant-loop-step
invariant-loop-step l = record {
  each : length l.gates.items ≡ length l.rules;
  begun : IsBegun (length l.rules) l.circuit;
  there : AreThere l.gates.items l.circuit;
  exact : AreOnWhereMet l.fn.at_zero l.rules l.starts (take l.step-index l.order) l.circuit l.gates.items;
}
