use Rattle.std.proofs.Common.{◌≡◌}
use Rattle.gate_circuits.specs.declared.effort.Effort.TheVariants as effort
use Rattle.gate_circuits.specs.inner.Search.{AreCommon}
use Rattle.gate_circuits.proofs.knowledge.Knowledge.add_common.Given as goal

abbrev pub invariant-sides : goal.invariant-sides
invariant-sides l = record {
  common : AreCommon l.self l.known l.summands l.summand-index l.common;
  unlimited : l.initial.effort ≡ effort.Unlimited → l.effort ≡ effort.Unlimited;
}
