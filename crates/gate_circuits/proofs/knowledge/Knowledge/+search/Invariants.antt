use Rattle.std.proofs.Common.{◌≡◌}
use Rattle.gate_circuits.specs.declared.effort.Effort.TheVariants as effort
use Rattle.gate_circuits.specs.inner.Knowledge.{AreModels}
use Rattle.gate_circuits.specs.inner.Search.{IsPartly}
use Rattle.gate_circuits.proofs.knowledge.Knowledge.+search.Given as goal

abbrev pub decreases-search : goal.decreases-search
decreases-search l = l.turn.place

abbrev pub invariant-turns : goal.invariant-turns
invariant-turns l = record {
  unlimited : l.initial.effort ≡ effort.Unlimited → l.effort ≡ effort.Unlimited;
  models : AreModels l.self l.models.items;
  part : IsPartly l.self l.turn.wanted l.summand-items l.initial.left l.left l.summand-index;
}
