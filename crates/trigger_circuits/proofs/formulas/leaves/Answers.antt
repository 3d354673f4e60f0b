use Rattle.std.proofs.Common.{length, ap}
use Rattle.trigger_circuits.proofs.Circuits.{none_begun, two_more}
use Rattle.trigger_circuits.proofs.formulas.leaves.Goals as goal

pub loop-index-init : goal.loop-index-init
loop-index-init c = record { begun = none_begun c.new-circuit.result c.new-circuit.ensures; many = ap length c.new-circuit.ensures }

pub loop-index-preserved : goal.loop-index-preserved
loop-index-preserved c =
    let both = two_more c.loop-index._index c.loop-index.circuit c.push.new.self c.push-in-loop-index.new.self c.loop-index.invariant.many c.loop-index.invariant.begun c.in_ok-push.ensures.pushed c.in_ok-push-2.ensures.pushed in
    record { begun = both.0; many = both.1 }
