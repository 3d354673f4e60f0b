use Rattle.std.proofs.Common.{◌≡◌}
use Rattle.gate_circuits.specs.declared.effort.Effort.TheVariants as effort
use Rattle.gate_circuits.specs.inner.Knowledge.{Follow}
use Rattle.gate_circuits.proofs.knowledge.Knowledge.saturate.Given as goal

abbrev pub invariant-rounds : goal.invariant-rounds
invariant-rounds l = record {
  follow : Follow l.self l.initial.known l.known;
  unlimited : l.initial.effort ≡ effort.Unlimited → l.effort ≡ effort.Unlimited;
}
