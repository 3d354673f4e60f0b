use Rattle.std.proofs.Common.{subst, length, get_or, ap, false, replicate, ◌∙◌, arith}
use Rattle.alias_paths.specs.inner.Marking.{AddsMarks, IsChosen, HasMarkedSecond}
use Rattle.alias_paths.proofs.Adding.{MarksFirst, firsts_marked, marked_none, marked_more, read_again, first_added, none_long}
use Rattle.alias_paths.proofs.numbers.firsts.Goals as goal

pub loop-first-init : goal.loop-first-init
loop-first-init c = marked_none c.args.pairs.now (MarksFirst c.args.seconds.now) c.in_ok-firsts.firsts

pub has-requires : goal.has-requires
has-requires c = (c.requires c.loop-first.first-index (0, 0) c.loop-first-test.true).1

pub mark_if-requires : goal.mark_if-requires
mark_if-requires c =
    let low = (c.requires c.loop-first.first-index (0, 0) c.loop-first-test.true).0 in
    let size = c.loop-first.invariant.one_each in
    let long = none_long c.count.result c.in_ok-firsts.firsts c.in_ok-firsts.ensures in
    let count = c.count.ensures in
    omega arith

pub loop-first-preserved : goal.loop-first-preserved
loop-first-preserved c =
    let pairs = c.args.pairs.now in
    let k = c.loop-first.first-index in
    marked_more pairs (MarksFirst c.args.seconds.now) k (get_or pairs k (0, 0)) c.in_ok-firsts.firsts c.loop-first.firsts c.mark_if.new.self
    c.loop-first-test.true (read_again pairs k (0, 0) c.loop-first-test.true) c.loop-first.invariant
    (subst (λ w. AddsMarks c.loop-first.firsts (IsChosen w (get_or pairs k (0, 0)).0) c.mark_if.new.self) c.has.ensures c.in_ok-mark_if.ensures)

pub returns : goal.returns
returns c =
    let seconds = c.args.seconds.now in
    first_added (length seconds) (HasMarkedSecond c.args.pairs.now seconds) c.in_ok-firsts.firsts c.loop-first.firsts
    (c.in_ok-firsts.ensures ∙ ap (λ m. replicate m false) c.count.ensures)
    (firsts_marked c.args.pairs.now c.loop-first.first-index seconds c.in_ok-firsts.firsts c.loop-first.firsts (omega arith) c.loop-first.invariant)
