use Rattle.trigger_circuits.proofs.Gates.{never_told}
use Rattle.trigger_circuits.proofs.gate.add_never.Goals as goal

pub returns : goal.returns
returns c = never_told c.args.count c.args.circuit.now c.push.new.self c.new-inputs.result c.push.result c.requires c.push.ensures.number c.new-inputs.ensures c.push.ensures.pushed
