use Rattle.std.proofs.Common.{◌≡◌, ℕ, ◌<◌, List, [], length, take_all, get_or, refl, sym, ap, subst, ◌∙◌, arith, length-set}
use Rattle.std.proofs.lemmas.Option.{slice_get_read}
use Rattle.gate_circuits.specs.declared.circuit.Gate.{Gate}
use Rattle.trigger_starts.specs.inner.Rules.{ArgumentsBelow}
use Rattle.trigger_starts.proofs.Meaning.{ready_at}
use Rattle.trigger_circuits.specs.inner.Circuits.{AddsGate, AreOnWhereMet, TrueOn}
use Rattle.trigger_circuits.proofs.Circuits.{front_below, on_next, there_next}
use Rattle.trigger_circuits.proofs.formulas.Formulas.of.Goals as goal

pub bounds-rules-index : goal.bounds-rules-index
bounds-rules-index c = (ready_at c.args.rules.now c.args.order.now [] c.loop-step.step-index c.loop-step-test.true c.requires.ordered.ready).0

pub add-requires-clause-own : goal.add-requires-clause-own
add-requires-clause-own c =
    let low = (ready_at c.args.rules.now c.args.order.now [] c.loop-step.step-index c.loop-step-test.true c.requires.ordered.ready).0 in
    let same = ap length c.deref.ensures.value ∙ c.loop-step.invariant.each in
    let at = c.new-own.ensures in
    omega arith

pub add-requires-clause-below : goal.add-requires-clause-below
add-requires-clause-below c =
    let step = get_or c.args.order.now c.loop-step.step-index 0 in
    let low = (ready_at c.args.rules.now c.args.order.now [] c.loop-step.step-index c.loop-step-test.true c.requires.ordered.ready).0 in
    let all = c.requires.closed step c.index-rules-index.result (slice_get_read c.args.rules.now (length c.args.rules.now) step c.index-rules-index.result refl low c.index-rules-index.is) in
    subst (λ n. ArgumentsBelow n c.index-rules-index.result) (sym (ap length c.deref.ensures.value ∙ c.loop-step.invariant.each)) all

pub index_mut-requires : goal.index_mut-requires
index_mut-requires c =
    let low = (ready_at c.args.rules.now c.args.order.now [] c.loop-step.step-index c.loop-step-test.true c.requires.ordered.ready).0 in
    let same = ap length c.deref.ensures.value ∙ c.loop-step.invariant.each in
    omega (arith, c.deref.ensures.len)

pub loop-step-preserved : goal.loop-step-preserved
loop-step-preserved c =
    let rules = c.args.rules.now in
    let order : List ℕ = c.args.order.now in
    let k = c.loop-step.step-index in
    let step = get_or c.args.order.now c.loop-step.step-index 0 in
    let low = (ready_at c.args.rules.now c.args.order.now [] c.loop-step.step-index c.loop-step-test.true c.requires.ordered.ready).0 in
    let it = slice_get_read c.args.rules.now (length c.args.rules.now) step c.index-rules-index.result refl low c.index-rules-index.is in
    let count : length c.deref.result.now ≡ length c.args.rules.now = ap length c.deref.ensures.value ∙ c.loop-step.invariant.each in
    let old : List Gate = c.loop-step.circuit in
    let new : List Gate = c.add.new.circuit in
    let n = c.in_ok-gates-2.field-0 in
    let adds = subst (λ m. AddsGate m c.loop-step.circuit c.add.new.circuit c.in_ok-gates-2.field-0 (λ leaves. TrueOn c.args.at_zero c.index-rules-index.result step c.args.starts.now c.loop-step.circuit c.loop-step.gates.items leaves)) count
    (subst (λ (l : List ℕ). AddsGate (length c.deref.result.now) c.loop-step.circuit c.add.new.circuit c.in_ok-gates-2.field-0 (λ leaves. TrueOn c.args.at_zero c.index-rules-index.result step c.args.starts.now c.loop-step.circuit l leaves)) c.deref.ensures.value
    (subst (λ m. AddsGate (length c.deref.result.now) c.loop-step.circuit c.add.new.circuit c.in_ok-gates-2.field-0 (λ leaves. TrueOn c.args.at_zero c.index-rules-index.result m c.args.starts.now c.loop-step.circuit c.deref.result.now leaves)) c.new-own.ensures c.in_ok-gates-2.ensures)) in
    record {
      each = length-set c.loop-step.gates.items step c.in_ok-gates-2.field-0 ∙ c.loop-step.invariant.each;
      begun = adds.begun;
      there =
          there_next c.args.at_zero c.args.rules.now c.args.starts.now c.args.order.now c.requires.ordered.ready c.loop-step.step-index c.loop-step-test.true c.loop-step.circuit c.add.new.circuit c.loop-step.gates.items c.in_ok-gates-2.field-0 c.index-rules-index.result it c.loop-step.invariant.each
          (length c.args.rules.now) c.loop-step.invariant.begun c.loop-step.invariant.there adds;
      exact =
          on_next c.args.at_zero c.args.rules.now c.args.starts.now c.args.order.now c.requires.ordered.ready c.loop-step.step-index c.loop-step-test.true c.loop-step.circuit c.add.new.circuit c.loop-step.gates.items c.in_ok-gates-2.field-0 c.index-rules-index.result it c.loop-step.invariant.each
          (length c.args.rules.now) c.loop-step.invariant.begun c.loop-step.invariant.there adds c.loop-step.invariant.exact
          (λ x front. subst (λ m. x < m) (sym c.loop-step.invariant.each) (front_below c.args.rules.now c.args.order.now c.requires.ordered.ready c.loop-step.step-index x front));
    }

pub returns : goal.returns
returns c = record {
  each = c.loop-step.invariant.each;
  there = c.loop-step.invariant.there;
  exact = λ leaves x low.
      subst (λ (l : List ℕ). AreOnWhereMet c.args.at_zero c.args.rules.now c.args.starts.now l c.loop-step.circuit c.loop-step.gates.items) (take_all c.loop-step.step-index c.args.order.now c.loop-step-test.false) c.loop-step.invariant.exact leaves x (c.requires.ordered.all x low);
}
