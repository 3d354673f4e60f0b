use Rattle.std.proofs.Common.{◌<◌, length}
use Rattle.std.proofs.lemmas.List.Elements.{All-from_recursion}
use Rattle.std.specs.Prelude.{IsTrue}
use Rattle.std.specs.List.{AllByRecursion}
use Rattle.gate_circuits.specs.Circuit.{IsOn}
use Rattle.trigger_circuits.specs.inner.Circuits.{gate_at}
use Rattle.trigger_circuits.proofs.Gates.{all_inputs, all_told, inputs_below, more_below, more_inputs}
use Rattle.trigger_circuits.proofs.gate.add_with_leaf.Goals as goal

pub returns : goal.returns
returns c =
    let count = length c.args.gates.now in
    let old = c.args.circuit.now in
    all_told (length c.args.gates.now) c.args.circuit.now c.push-2.new.self c.push.new.self c.push-2.result c.requires.begun c.push-2.ensures.number
    (λ leaves. AllByRecursion (λ a. IsOn c.args.circuit.now leaves (gate_at c.args.gates.now a)) c.args.args.now × IsTrue (leaves c.args.leaf))
    (more_below count old c.requires.begun c.in_ok-inputs.inputs c.push.new.self c.args.leaf c.requires.leaf c.in_ok-push.ensures (inputs_below c.args.circuit.now c.args.gates.now c.args.args.now c.in_ok-inputs.inputs c.requires.there c.requires.below c.in_ok-inputs.ensures))
    c.push-2.ensures.pushed
    (λ leaves. more_inputs count old c.requires.begun c.in_ok-inputs.inputs c.push.new.self c.args.leaf c.requires.leaf c.in_ok-push.ensures leaves (AllByRecursion (λ a. IsOn c.args.circuit.now leaves (gate_at c.args.gates.now a)) c.args.args.now)
    (all_inputs c.args.circuit.now c.args.gates.now c.args.args.now c.in_ok-inputs.inputs c.requires.there c.requires.below c.in_ok-inputs.ensures leaves))

pub push-requires-2 : goal.push-requires-2
push-requires-2 c =
    All-from_recursion (λ i. i < length c.args.circuit.now) c.push.new.self
    (more_below (length c.args.gates.now) c.args.circuit.now c.requires.begun c.in_ok-inputs.inputs c.push.new.self c.args.leaf c.requires.leaf c.in_ok-push.ensures (inputs_below c.args.circuit.now c.args.gates.now c.args.args.now c.in_ok-inputs.inputs c.requires.there c.requires.below c.in_ok-inputs.ensures))
