use Rattle.std.proofs.Common.{◌≡◌, ℕ, Bool, List, [], length, take_all, get_or, refl, sym, ap, subst, ◌∙◌, arith, length-set}
use Rattle.std.proofs.lemmas.Option.{slice_get_read}
use Rattle.trigger_starts.specs.inner.Kept.{AreFiring}
use Rattle.trigger_starts.specs.inner.Rules.{ArgumentsBelow, is_marked}
use Rattle.trigger_starts.specs.inner.Truth.{assignment_of, value_by}
use Rattle.trigger_starts.proofs.Meaning.{firing_next, ready_at}
use Rattle.trigger_starts.proofs.starts.firing.Goals as goal

pub bounds-rules-index : goal.bounds-rules-index
bounds-rules-index c = (ready_at c.args.rules.now c.args.order.now [] c.loop-step.step-index c.loop-step-test.true c.requires.ready).0

pub fires-requires-clause-below : goal.fires-requires-clause-below
fires-requires-clause-below c =
    let step = get_or c.args.order.now c.loop-step.step-index 0 in
    let low = (ready_at c.args.rules.now c.args.order.now [] c.loop-step.step-index c.loop-step-test.true c.requires.ready).0 in
    let all = c.requires.closed step c.index-rules-index.result (slice_get_read c.args.rules.now (length c.args.rules.now) step c.index-rules-index.result refl low c.index-rules-index.is) in
    subst (λ n. ArgumentsBelow n c.index-rules-index.result) (sym (ap length c.deref.ensures.value ∙ c.loop-step.invariant.one_each)) all

pub index_mut-requires : goal.index_mut-requires
index_mut-requires c =
    let low = (ready_at c.args.rules.now c.args.order.now [] c.loop-step.step-index c.loop-step-test.true c.requires.ready).0 in
    let same = ap length c.deref.ensures.value ∙ c.loop-step.invariant.one_each in
    omega (arith, c.deref.ensures.len)

pub loop-step-preserved : goal.loop-step-preserved
loop-step-preserved c =
    let step = get_or c.args.order.now c.loop-step.step-index 0 in
    let low = (ready_at c.args.rules.now c.args.order.now [] c.loop-step.step-index c.loop-step-test.true c.requires.ready).0 in
    record {
      one_each = length-set c.loop-step.marks.items step c.fires.result ∙ c.loop-step.invariant.one_each;
      exact =
          firing_next c.args.rules.now c.args.starts.now (assignment_of c.args.given) c.args.order.now c.requires.ready c.loop-step.step-index c.loop-step-test.true c.loop-step.marks.items c.loop-step.invariant.one_each c.index-rules-index.result
          (slice_get_read c.args.rules.now (length c.args.rules.now) step c.index-rules-index.result refl low c.index-rules-index.is) c.fires.result
          (subst (λ (l : List Bool). c.fires.result ≡ value_by c.index-rules-index.result step c.args.starts.now (is_marked l) (assignment_of c.args.given)) c.deref.ensures.value (c.fires.ensures step)) c.loop-step.invariant.exact;
    }

pub returns-clause-exact : goal.returns-clause-exact
returns-clause-exact c = subst (λ (l : List ℕ). AreFiring c.args.rules.now c.args.starts.now l (assignment_of c.args.given) c.loop-step.marks.items) (take_all c.loop-step.step-index c.args.order.now c.loop-step-test.false) c.loop-step.invariant.exact
