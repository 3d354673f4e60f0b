use Rattle.std.proofs.Common.{◌<◌, length}
use Rattle.std.proofs.lemmas.List.Elements.{All-from_recursion}
use Rattle.gate_circuits.specs.Circuit.{IsOn}
use Rattle.trigger_starts.specs.inner.Rules.{HasSome}
use Rattle.trigger_circuits.specs.inner.Circuits.{gate_at}
use Rattle.trigger_circuits.proofs.Gates.{any_told, inputs_below, some_inputs}
use Rattle.trigger_circuits.proofs.gate.add_any.Goals as goal

pub returns : goal.returns
returns c =
    any_told (length c.args.gates.now) c.args.circuit.now c.push.new.self c.in_ok-inputs.inputs c.push.result c.requires.begun c.push.ensures.number
    (λ leaves. HasSome (λ a. IsOn c.args.circuit.now leaves (gate_at c.args.gates.now a)) c.args.args.now) (inputs_below c.args.circuit.now c.args.gates.now c.args.args.now c.in_ok-inputs.inputs c.requires.there c.requires.below c.in_ok-inputs.ensures)
    c.push.ensures.pushed (some_inputs c.args.circuit.now c.args.gates.now c.args.args.now c.in_ok-inputs.inputs c.requires.there c.requires.below c.in_ok-inputs.ensures)

pub push-requires : goal.push-requires
push-requires c = All-from_recursion (λ i. i < length c.args.circuit.now) c.in_ok-inputs.inputs (inputs_below c.args.circuit.now c.args.gates.now c.args.args.now c.in_ok-inputs.inputs c.requires.there c.requires.below c.in_ok-inputs.ensures)
