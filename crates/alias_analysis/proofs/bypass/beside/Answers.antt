use Rattle.std.proofs.Common.{length, get_or, false, replicate, ap, ◌∙◌, arith}
use Rattle.flat_core.proofs.MarkLemmas.{mark_within}
use Rattle.alias_nears.specs.inner.Contents.{IsMarkedBeside}
use Rattle.alias_paths.proofs.Adding.{IsIt, marked_none, read_again, listed_low, listed_more, listed_all, none_long}
use Rattle.alias_analysis.proofs.bypass.beside.Goals as goal

pub loop-number-init : goal.loop-number-init
loop-number-init c = marked_none c.listed-listed.result.now (IsIt (IsMarkedBeside c.args.flat.now c.args.update c.args.marked.now)) c.in_ok-beside.beside

pub is_beside-requires-clause-there : goal.is_beside-requires-clause-there
is_beside-requires-clause-there c =
    let low = mark_within c.args.marked.now (get_or c.listed-listed.result.now c.loop-number.number-index 0) (listed_low c.args.marked.now c.listed-listed.result.now c.loop-number.number-index (get_or c.listed-listed.result.now c.loop-number.number-index 0) c.listed-listed.ensures c.loop-number-test.true (read_again c.listed-listed.result.now c.loop-number.number-index 0 c.loop-number-test.true)) in
    omega arith

pub mark_if-requires : goal.mark_if-requires
mark_if-requires c =
    let low = mark_within c.args.marked.now (get_or c.listed-listed.result.now c.loop-number.number-index 0) (listed_low c.args.marked.now c.listed-listed.result.now c.loop-number.number-index (get_or c.listed-listed.result.now c.loop-number.number-index 0) c.listed-listed.ensures c.loop-number-test.true (read_again c.listed-listed.result.now c.loop-number.number-index 0 c.loop-number-test.true)) in
    let size = c.loop-number.invariant.one_each in
    let long = none_long c.count.result c.in_ok-beside.beside c.in_ok-beside.ensures in
    let count = c.count.ensures in
    omega arith

pub loop-number-preserved : goal.loop-number-preserved
loop-number-preserved c =
    listed_more (IsMarkedBeside c.args.flat.now c.args.update c.args.marked.now) c.listed-listed.result.now c.loop-number.number-index (get_or c.listed-listed.result.now c.loop-number.number-index 0) c.in_ok-wanted.wanted c.in_ok-beside.beside c.loop-number.beside c.mark_if.new.self
    c.loop-number-test.true (read_again c.listed-listed.result.now c.loop-number.number-index 0 c.loop-number-test.true) c.in_ok-wanted.ensures c.loop-number.invariant c.in_ok-mark_if.ensures

pub returns : goal.returns
returns c =
    listed_all (IsMarkedBeside c.args.flat.now c.args.update c.args.marked.now) c.listed-listed.result.now c.args.marked.now c.loop-number.number-index (length c.args.flat.now.equations) c.in_ok-beside.beside c.loop-number.beside
    (omega arith) c.listed-listed.ensures (λ x p. p.marked) (c.in_ok-beside.ensures ∙ ap (λ m. replicate m false) (c.count.ensures ∙ c.requires.one_each)) c.loop-number.invariant
