use Rattle.std.proofs.Common.{◌≡◌, ℕ, ◌+◌, false, List, [], Contains, take, take_all, get_or, sym, subst, ◌∙◌, arith}
use Rattle.std.proofs.lemmas.List.{get_or_default}
use Rattle.std.specs.Prelude.{IsTrue}
use Rattle.trigger_starts.specs.inner.Rules.{AreReady, is_marked}
use Rattle.trigger_starts.proofs.Meaning.{ready_at, step_below}
use Rattle.trigger_starts.proofs.Marking.{ready_next, there_next, there_same, from_next, from_same}
use Rattle.trigger_starts.proofs.needed.needed.Goals as goal
use Rattle.trigger_starts.proofs.needed.needed.Goals.{then-index+in_ok-push, else-index}

pub marked-requires-clause-below : goal.marked-requires-clause-below
marked-requires-clause-below c = step_below c.args.rules.now c.args.order.now c.requires.ready c.args.a c.requires.there

pub index-requires : goal.index-requires
index-requires c =
    let low = (ready_at c.args.rules.now c.args.order.now [] c.loop-step.step-index c.loop-step-test.true c.requires.ready).0 in
    let each = c.in_ok-marks.ensures.one_each in
    omega arith

pub loop-step-preserved : goal.loop-step-preserved
loop-step-preserved c =
    let rules = c.args.rules.now in
    let order : List ℕ = c.args.order.now in
    let k = c.loop-step.step-index in
    let lt = c.loop-step-test.true in
    let marks = c.in_ok-marks.marks.items in
    let closed = c.in_ok-marks.ensures.closed in
    let low = (ready_at rules order [] k lt c.requires.ready).0 in
    let each = c.in_ok-marks.ensures.one_each in
    let test : c.index.result.now ≡ is_marked marks (get_or order k 0) = c.index.ensures ∙ get_or_default marks (get_or order k 0) c.index.result.now false (omega arith) in
    elim c.if-index.branch [
      | then-index+in_ok-push w ↦
          let marked : IsTrue (is_marked marks (get_or order k 0)) = sym test ∙ w.if-index.true in
          let same = sym (w.steps-is ∙ w.in_ok-push.ensures) in
          record {
            ready = subst (λ l. AreReady rules [] l) same (ready_next rules order c.requires.ready marks closed k lt c.loop-step.steps c.loop-step.invariant.ready c.loop-step.invariant.there c.loop-step.invariant.from marked);
            there = subst (λ l. (x : ℕ) → Contains (take (k + 1) order) x → IsTrue (is_marked marks x) → Contains l x) same (there_next rules order c.requires.ready marks closed k lt c.loop-step.steps c.loop-step.invariant.there);
            from = subst (λ l. (x : ℕ) → Contains l x → Contains (take (k + 1) order) x) same (from_next rules order c.requires.ready marks closed k lt c.loop-step.steps c.loop-step.invariant.from);
          }
      | else-index w ↦
          let quiet : is_marked marks (get_or order k 0) ≡ false = sym test ∙ w.if-index.false in
          let same = sym w.steps-is in
          record {
            ready = subst (λ l. AreReady rules [] l) same c.loop-step.invariant.ready;
            there = subst (λ l. (x : ℕ) → Contains (take (k + 1) order) x → IsTrue (is_marked marks x) → Contains l x) same (there_same rules order c.requires.ready marks closed k lt c.loop-step.steps quiet c.loop-step.invariant.there);
            from = subst (λ l. (x : ℕ) → Contains l x → Contains (take (k + 1) order) x) same (from_same rules order c.requires.ready marks closed k lt c.loop-step.steps c.loop-step.invariant.from);
          }
    ]

pub returns-clause-there : goal.returns-clause-there
returns-clause-there c =
    subst (λ (l : List ℕ). (x : ℕ) → Contains l x → IsTrue (is_marked c.in_ok-marks.marks.items x) → Contains c.loop-step.steps x) (take_all c.loop-step.step-index c.args.order.now c.loop-step-test.false) c.loop-step.invariant.there c.args.a c.requires.there c.in_ok-marks.ensures.own
