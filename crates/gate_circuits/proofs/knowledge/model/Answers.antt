use Rattle.std.proofs.Common.{◌≡◌, ◌/◌, ◌<◌, Bool, List, length, refl, sym, ap, subst, ◌∙◌, arith}
use Rattle.std.proofs.lemmas.Option.{slice_get_read}
use Rattle.gate_circuits.specs.declared.circuit.Gate.{Gate}
use Rattle.gate_circuits.specs.Circuit.{IsOrdered}
use Rattle.gate_circuits.specs.inner.Marks.{has}
use Rattle.gate_circuits.specs.inner.Knowledge.{value, IsModel}
use Rattle.gate_circuits.proofs.Gates.{model_more, model_past, model_all}
use Rattle.gate_circuits.proofs.knowledge.model.Goals as goal

pub loop-number-preserved : goal.loop-number-preserved
loop-number-preserved c =
    let gates = c.gates-gates.result.now in
    let n = c.loop-number.number in
    let on = c.loop-number.on in
    let new = c.add_if.new.self in
    let it = c.index-gates-number.result in
    let is = slice_get_read gates (length gates) n it refl c.loop-number-test.true c.index-gates-number.is in
    let ordered : IsOrdered gates = subst (λ (g : List Gate). IsOrdered g) (sym c.gates-gates.ensures.value) c.gates-gates.ensures.ordered in
    let by : c.value-value.result ≡ value it (has c.args.leaves.now n) (has on) = c.value-value.ensures ∙ ap (λ (b : Bool). value it b (has on)) c.has.ensures in
    let fits : n / 64 < length on = omega (arith, c.loop-number.invariant.room, c.loop-number-test.true) in
    record {
      room = c.add_if.ensures.room ∙ c.loop-number.invariant.room;
      below = model_more gates ordered (has c.args.leaves.now) on new n it is c.value-value.result by c.loop-number.invariant.below c.loop-number.invariant.above c.add_if.ensures.from (λ h. c.add_if.ensures.here h fits) c.add_if.ensures.kept;
      above = model_past gates ordered (has c.args.leaves.now) on new n it is c.value-value.result by c.loop-number.invariant.below c.loop-number.invariant.above c.add_if.ensures.from;
    }

pub returns : goal.returns
returns c =
    let gates = c.gates-gates.result.now in
    subst (λ (g : List Gate). IsModel g (has c.args.leaves.now) c.loop-number.on) c.gates-gates.ensures.value
    (model_all gates (has c.args.leaves.now) c.loop-number.on c.loop-number.number c.loop-number-test.false c.loop-number.invariant.below c.loop-number.invariant.above)
