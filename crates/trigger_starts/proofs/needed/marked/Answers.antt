use Rattle.std.proofs.Common.{◌≡◌, ℕ, ◌-◌, ◌<◌, ◌≤◌, Bool, List, [], length, drop, get_or, refl, sym, ap, subst, ◌∙◌, arith}
use Rattle.std.proofs.lemmas.List.{take_at}
use Rattle.std.proofs.lemmas.Option.{slice_get_read}
use Rattle.std.specs.Prelude.{IsTrue}
use Rattle.trigger_starts.specs.inner.Rules.{ArgumentsBelow, UsedMarked, is_marked}
use Rattle.tsl_value.proofs.Lists.{here}
use Rattle.trigger_starts.proofs.Meaning.{ready_at}
use Rattle.trigger_starts.proofs.Marking.{all_closed, closed_more}
use Rattle.trigger_starts.proofs.needed.marked.Goals as goal

pub loop-index-init : goal.loop-index-init
loop-index-init c =
    let many = c.mark.auto.marks ∙ c.deref_mut.ensures.len in
    let same = sym (take_at c.mark.new.marks (drop (length c.mark.new.marks) c.in_ok-marks.marks.items) c.in_ok-marks.marks.len many) in
    record {
      one_each = subst (λ (l : List Bool). length l ≡ length c.args.rules.now) same (many ∙ c.in_ok-marks.ensures.len);
      own = subst (λ (l : List Bool). IsTrue (is_marked l c.args.a)) same (c.mark.ensures.there c.args.a (here c.args.a []));
      closed = λ k le lt. absurd (omega arith);
    }

pub index-requires : goal.index-requires
index-requires c =
    let some = c.loop-index-test.true in
    let upto = c.loop-index.auto.index in
    let low = (ready_at c.args.rules.now c.args.order.now [] (c.loop-index.index - 1) (omega arith) c.requires.ready).0 in
    let each = c.loop-index.invariant.one_each in
    omega arith

pub bounds-rules-step : goal.bounds-rules-step
bounds-rules-step c =
    let some = c.loop-index-test.true in
    let upto = c.loop-index.auto.index in
    (ready_at c.args.rules.now c.args.order.now [] (c.loop-index.index - 1) (omega arith) c.requires.ready).0

pub mark_used-requires : goal.mark_used-requires
mark_used-requires c =
    let some = c.loop-index-test.true in
    let upto = c.loop-index.auto.index in
    let step = get_or c.args.order.now (c.loop-index.index - 1) 0 in
    let low = (ready_at c.args.rules.now c.args.order.now [] (c.loop-index.index - 1) (omega arith) c.requires.ready).0 in
    let all = c.requires.closed step c.index-rules-step.result (slice_get_read c.args.rules.now (length c.args.rules.now) step c.index-rules-step.result refl low c.index-rules-step.is) in
    subst (λ n. ArgumentsBelow n c.index-rules-step.result) (sym (ap length c.deref_mut-then-index.ensures.value ∙ c.loop-index.invariant.one_each)) all

pub loop-index-preserved-then-index : goal.loop-index-preserved-then-index
loop-index-preserved-then-index c =
    let some = c.loop-index-test.true in
    let upto = c.loop-index.auto.index in
    let k : ℕ = c.loop-index.index - 1 in
    let step = get_or c.args.order.now (c.loop-index.index - 1) 0 in
    let lt : c.loop-index.index - 1 < length c.args.order.now = omega arith in
    let low = (ready_at c.args.rules.now c.args.order.now [] (c.loop-index.index - 1) lt c.requires.ready).0 in
    let many = c.mark_used.auto.marks ∙ c.deref_mut-then-index.ensures.len in
    let same = sym (take_at c.mark_used.new.marks (drop (length c.mark_used.new.marks) c.loop-index.marks.items) c.loop-index.marks.len many) in
    let old = c.deref_mut-then-index.result.now in
    let was : old ≡ c.loop-index.marks.items = c.deref_mut-then-index.ensures.value in
    let it = slice_get_read c.args.rules.now (length c.args.rules.now) step c.index-rules-step.result refl low c.index-rules-step.is in
    let closed = closed_more c.args.rules.now c.args.order.now c.requires.ready (c.loop-index.index - 1) lt c.index-rules-step.result it old c.mark_used.new.marks c.mark_used.ensures
    (λ j le j_lt. subst (λ (l : List Bool). UsedMarked c.args.rules.now l (get_or c.args.order.now j 0)) (sym was) (c.loop-index.invariant.closed j (omega arith) j_lt)) in
    record {
      one_each = subst (λ (l : List Bool). length l ≡ length c.args.rules.now) same (c.mark_used.auto.marks ∙ ap length was ∙ c.loop-index.invariant.one_each);
      own = subst (λ (l : List Bool). IsTrue (is_marked l c.args.a)) same (c.mark_used.ensures.kept c.args.a (subst (λ (l : List Bool). IsTrue (is_marked l c.args.a)) (sym was) c.loop-index.invariant.own));
      closed = subst (λ (l : List Bool). (j : ℕ) → c.loop-index.index - 1 ≤ j → j < length c.args.order.now → UsedMarked c.args.rules.now l (get_or c.args.order.now j 0)) same closed;
    }

pub returns-clause-closed : goal.returns-clause-closed
returns-clause-closed c =
    let done = c.loop-index-test.false in
    all_closed c.args.rules.now c.args.order.now c.requires.ready c.loop-index.marks.items (λ j lt. c.loop-index.invariant.closed j (omega arith) lt)
