use Rattle.std.proofs.Common.{length}
use Rattle.std.specs.List.{AllByRecursion}
use Rattle.std.proofs.lemmas.Result.{IfOk-weaker}
use Rattle.gate_circuits.specs.Circuit.{IsOn}
use Rattle.trigger_circuits.specs.inner.Circuits.{AddsGate, TrueOn, gate_at}
use Rattle.trigger_circuits.proofs.Gates.{added_all, added_delay, added_never, added_own, own_leaf}
use Rattle.trigger_circuits.proofs.gate.add.Goals as goal

pub returns-in-Never : goal.returns-in-Never
returns-in-Never c =
    IfOk-weaker c.add_never.result (λ n. AddsGate (length c.args.gates.now) c.args.circuit.now c.add_never.new.circuit n (λ leaves. ⊥))
    (λ n. AddsGate (length c.args.gates.now) c.args.circuit.now c.add_never.new.circuit n (λ leaves. TrueOn c.args.at_zero c.args.rule.now c.args.own c.args.starts.now c.args.circuit.now c.args.gates.now leaves))
    (λ n adds. added_never (length c.args.gates.now) c.args.circuit.now c.add_never.new.circuit n c.args.at_zero c.args.rule.now c.args.own c.args.starts.now c.args.gates.now c.in-Never.is adds) c.add_never.ensures

pub returns-in-Own : goal.returns-in-Own
returns-in-Own c =
    added_own (length c.args.gates.now) c.args.circuit.now c.args.circuit.now c.happens.result c.args.at_zero c.args.rule.now c.args.own c.args.starts.now c.args.gates.now c.in-Own.is
    (own_leaf (length c.args.gates.now) c.args.circuit.now c.args.own c.happens.result c.requires.begun c.requires.own c.happens.ensures)

pub returns-in-All : goal.returns-in-All
returns-in-All c =
    IfOk-weaker c.add_all.result (λ n. AddsGate (length c.args.gates.now) c.args.circuit.now c.add_all.new.circuit n (λ leaves. AllByRecursion (λ a. IsOn c.args.circuit.now leaves (gate_at c.args.gates.now a)) c.ids.result.now))
    (λ n. AddsGate (length c.args.gates.now) c.args.circuit.now c.add_all.new.circuit n (λ leaves. TrueOn c.args.at_zero c.args.rule.now c.args.own c.args.starts.now c.args.circuit.now c.args.gates.now leaves))
    (λ n adds. added_all (length c.args.gates.now) c.args.circuit.now c.add_all.new.circuit n c.args.at_zero c.args.rule.now c.args.own c.args.starts.now c.args.gates.now c.in-All.args c.ids.result.now c.in-All.is c.ids.ensures adds) c.add_all.ensures

pub returns-else-at_zero-2 : goal.returns-else-at_zero-2
returns-else-at_zero-2 c =
    added_delay (length c.args.gates.now) c.args.circuit.now c.args.circuit.now c.happens-else-at_zero-2.result c.args.at_zero c.args.rule.now c.args.own c.args.starts.now c.args.gates.now c.in-Delay.is c.if-at_zero-2.false
    (own_leaf (length c.args.gates.now) c.args.circuit.now c.args.own c.happens-else-at_zero-2.result c.requires.begun c.requires.own c.happens-else-at_zero-2.ensures)
