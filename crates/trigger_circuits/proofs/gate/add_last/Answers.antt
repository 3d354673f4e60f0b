use Rattle.std.proofs.Common.{◌*◌, ◌⊎◌, ◌∷◌, [], length}
use Rattle.std.specs.Prelude.{IsFalse, IsTrue}
use Rattle.std.specs.List.{AllByRecursion}
use Rattle.std.proofs.lemmas.Result.{IfOk-weaker}
use Rattle.gate_circuits.specs.Circuit.{IsOn}
use Rattle.trigger_circuits.specs.inner.Circuits.{AddsGate, gate_at}
use Rattle.trigger_circuits.proofs.Gates.{last_at_zero, last_leaf, last_started}
use Rattle.trigger_circuits.proofs.gate.add_last.Goals as goal

pub returns-then-at_zero : goal.returns-then-at_zero
returns-then-at_zero c =
    IfOk-weaker c.add_never.result (λ n. AddsGate (length c.args.gates.now) c.args.circuit.now c.add_never.new.circuit n (λ leaves. ⊥))
    (λ n. AddsGate (length c.args.gates.now) c.args.circuit.now c.add_never.new.circuit n (λ leaves. IsFalse c.args.at_zero × IsOn c.args.circuit.now leaves (gate_at c.args.gates.now c.args.trigger) × (IsTrue c.args.started ⊎ IsTrue (leaves (2 * c.args.own)))))
    (λ n adds. last_at_zero (length c.args.gates.now) c.args.circuit.now c.add_never.new.circuit n c.args.gates.now c.args.own c.args.trigger c.args.started c.args.at_zero c.if-at_zero.true adds) c.add_never.ensures

pub returns-then-started : goal.returns-then-started
returns-then-started c =
    last_started (length c.args.gates.now) c.args.circuit.now c.args.circuit.now 0 c.args.gates.now c.args.own c.args.trigger c.args.started c.args.at_zero c.if-at_zero.false c.if-started.true c.requires.begun (c.requires.there c.args.trigger c.requires.trigger) c.get.result c.get.ensures

pub returns-else-started : goal.returns-else-started
returns-else-started c =
    IfOk-weaker c.add_with_leaf.result
    (λ n. AddsGate (length c.args.gates.now) c.args.circuit.now c.add_with_leaf.new.circuit n (λ leaves. AllByRecursion (λ a. IsOn c.args.circuit.now leaves (gate_at c.args.gates.now a)) (c.args.trigger ∷ []) × IsTrue (leaves c.happens.result)))
    (λ n. AddsGate (length c.args.gates.now) c.args.circuit.now c.add_with_leaf.new.circuit n (λ leaves. IsFalse c.args.at_zero × IsOn c.args.circuit.now leaves (gate_at c.args.gates.now c.args.trigger) × (IsTrue c.args.started ⊎ IsTrue (leaves (2 * c.args.own)))))
    (λ n adds. last_leaf (length c.args.gates.now) c.args.circuit.now c.add_with_leaf.new.circuit n c.args.gates.now c.args.own c.args.trigger c.args.started c.args.at_zero c.if-at_zero.false c.if-started.false c.happens.result c.happens.ensures adds) c.add_with_leaf.ensures
