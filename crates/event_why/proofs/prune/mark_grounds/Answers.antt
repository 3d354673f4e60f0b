use Rattle.std.proofs.Common.{◌≡◌, ℕ, suc, ◌-◌, ◌<◌, get_or, length, sym, subst, ◌∙◌, arith}
use Rattle.std.proofs.lemmas.Option.{slice_get-get_or}
use Rattle.event_why.specs.inner.Used.{AreMarked}
use Rattle.event_why.proofs.MarkLemmas.{AreMarkedFrom, from_end, from_more, from_same, from_start}
use Rattle.event_why.proofs.prune.mark_grounds.Goals as goal

pub loop-place-init : goal.loop-place-init
loop-place-init c = λ earlier. from_end c.args.steps.now c.args.marks.now (length c.args.steps.now) (omega arith)

pub loop-place-preserved : goal.loop-place-preserved
loop-place-preserved c = λ earlier.
    let some = c.loop-place-test.true in
    let k : ℕ = c.loop-place.place - 1 in
    let same : c.loop-place.place ≡ suc (c.loop-place.place - 1) = omega arith in
    from_same c.args.steps.now c.args.marks.now k c.loop-place.marks
    (subst (λ n. AreMarkedFrom c.args.steps.now n c.args.marks.now c.loop-place.marks) same (c.loop-place.invariant earlier))
    (sym c.is_marked.ensures ∙ c.if-is_marked.false)

pub loop-place-preserved-then-is_marked : goal.loop-place-preserved-then-is_marked
loop-place-preserved-then-is_marked c = λ earlier.
    let steps = c.args.steps.now in
    let some = c.loop-place-test.true in
    let upto = c.loop-place.auto.place in
    let many = c.loop-place.auto.marks ∙ c.requires in
    let k : ℕ = c.loop-place.place - 1 in
    let same : c.loop-place.place ≡ suc (c.loop-place.place - 1) = omega arith in
    let low : c.loop-place.place - 1 < length c.args.steps.now = omega arith in
    let step = get_or steps k c.index-steps-place.result in
    let at = slice_get-get_or steps k c.index-steps-place.result low in
    let are = subst (λ ns. AreMarked ns c.loop-place.marks c.mark_named.new.marks) c.deref.ensures.value c.mark_named.ensures in
    from_more steps c.args.marks.now k c.loop-place.marks
    (subst (λ n. AreMarkedFrom steps n c.args.marks.now c.loop-place.marks) same (c.loop-place.invariant earlier))
    earlier step at (sym c.is_marked.ensures ∙ c.if-is_marked.true) many c.mark_named.new.marks are

pub returns : goal.returns
returns c = λ earlier.
    let past = c.loop-place-test.false in
    let done : c.loop-place.place ≡ 0 = omega arith in
    from_start c.args.steps.now c.args.marks.now c.loop-place.marks
    (subst (λ n. AreMarkedFrom c.args.steps.now n c.args.marks.now c.loop-place.marks) done (c.loop-place.invariant earlier))
