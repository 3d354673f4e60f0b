use Rattle.std.proofs.Common.{◌≡◌, map, take}
use Rattle.trigger_circuits.specs.inner.Circuits.{gate_at}
use Rattle.trigger_circuits.proofs.gate.inputs.Given as goal

abbrev pub invariant-loop-arg : goal.invariant-loop-arg
invariant-loop-arg l = l.inputs ≡ map (gate_at l.gates) (take l.arg-index l.args)
