use Rattle.std.proofs.Common.{length, get_or, false, replicate, ap, ◌∙◌, arith}
use Rattle.flat_core.proofs.MarkLemmas.{mark_within}
use Rattle.alias_nears.specs.inner.Contents.{AreMarkedInBoth}
use Rattle.alias_paths.proofs.Adding.{IsIt, marked_none, read_again, listed_low, listed_more, listed_all, none_long}
use Rattle.alias_nears.proofs.kept.both.Goals as goal

pub loop-number-init : goal.loop-number-init
loop-number-init c = marked_none c.listed-listed.result.now (IsIt (AreMarkedInBoth c.args.first.now c.args.second.now)) c.in_ok-both.both

pub are_marked-requires-clause-first : goal.are_marked-requires-clause-first
are_marked-requires-clause-first c =
    let low = mark_within c.args.first.now (get_or c.listed-listed.result.now c.loop-number.number-index 0) (listed_low c.args.first.now c.listed-listed.result.now c.loop-number.number-index (get_or c.listed-listed.result.now c.loop-number.number-index 0) c.listed-listed.ensures c.loop-number-test.true (read_again c.listed-listed.result.now c.loop-number.number-index 0 c.loop-number-test.true)) in
    omega arith

pub are_marked-requires-clause-second : goal.are_marked-requires-clause-second
are_marked-requires-clause-second c =
    let low = mark_within c.args.first.now (get_or c.listed-listed.result.now c.loop-number.number-index 0) (listed_low c.args.first.now c.listed-listed.result.now c.loop-number.number-index (get_or c.listed-listed.result.now c.loop-number.number-index 0) c.listed-listed.ensures c.loop-number-test.true (read_again c.listed-listed.result.now c.loop-number.number-index 0 c.loop-number-test.true)) in
    let same = c.requires in
    omega arith

pub mark_if-requires : goal.mark_if-requires
mark_if-requires c =
    let low = mark_within c.args.first.now (get_or c.listed-listed.result.now c.loop-number.number-index 0) (listed_low c.args.first.now c.listed-listed.result.now c.loop-number.number-index (get_or c.listed-listed.result.now c.loop-number.number-index 0) c.listed-listed.ensures c.loop-number-test.true (read_again c.listed-listed.result.now c.loop-number.number-index 0 c.loop-number-test.true)) in
    let size = c.loop-number.invariant.one_each in
    let long = none_long c.count.result c.in_ok-both.both c.in_ok-both.ensures in
    let count = c.count.ensures in
    omega arith

pub loop-number-preserved : goal.loop-number-preserved
loop-number-preserved c =
    listed_more (AreMarkedInBoth c.args.first.now c.args.second.now) c.listed-listed.result.now c.loop-number.number-index (get_or c.listed-listed.result.now c.loop-number.number-index 0) c.are_marked.result c.in_ok-both.both c.loop-number.both c.mark_if.new.self
    c.loop-number-test.true (read_again c.listed-listed.result.now c.loop-number.number-index 0 c.loop-number-test.true) c.are_marked.ensures c.loop-number.invariant c.in_ok-mark_if.ensures

pub returns : goal.returns
returns c =
    listed_all (AreMarkedInBoth c.args.first.now c.args.second.now) c.listed-listed.result.now c.args.first.now c.loop-number.number-index (length c.args.first.now) c.in_ok-both.both c.loop-number.both
    (omega arith) c.listed-listed.ensures (λ x p. p.in_first) (c.in_ok-both.ensures ∙ ap (λ m. replicate m false) c.count.ensures) c.loop-number.invariant
