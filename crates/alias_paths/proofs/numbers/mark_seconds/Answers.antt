use Rattle.std.proofs.Common.{get_or, subst, arith}
use Rattle.alias_paths.specs.inner.Marking.{AddsMarks, IsChosen}
use Rattle.alias_paths.proofs.Adding.{MarksSecond, seconds_marked, marked_none, marked_more, read_again}
use Rattle.alias_paths.proofs.numbers.mark_seconds.Goals as goal

pub loop-first-init : goal.loop-first-init
loop-first-init c = marked_none c.args.pairs.now (MarksSecond c.args.firsts.now) c.args.marked.now

pub loop-first-preserved : goal.loop-first-preserved
loop-first-preserved c =
    let pairs = c.args.pairs.now in
    let k = c.loop-first.first-index in
    marked_more pairs (MarksSecond c.args.firsts.now) k (get_or pairs k (0, 0)) c.args.marked.now c.loop-first.marked c.mark_if.new.self
    c.loop-first-test.true (read_again pairs k (0, 0) c.loop-first-test.true) c.loop-first.invariant
    (subst (λ w. AddsMarks c.loop-first.marked (IsChosen w (get_or pairs k (0, 0)).1) c.mark_if.new.self) c.has.ensures c.in_ok-mark_if.ensures)

pub returns : goal.returns
returns c = seconds_marked c.args.pairs.now c.loop-first.first-index c.args.firsts.now c.args.marked.now c.loop-first.marked (omega arith) c.loop-first.invariant
