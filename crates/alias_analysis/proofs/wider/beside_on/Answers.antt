use Rattle.std.proofs.Common.{length, get_or, ap, ◌∙◌, arith}
use Rattle.flat_core.proofs.MarkLemmas.{mark_within}
use Rattle.alias_nears.specs.inner.Contents.{IsNewBeside}
use Rattle.alias_paths.proofs.Adding.{IsIt, marked_none, read_again, listed_low, listed_more}
use Rattle.alias_nears.proofs.Widening.{added_listed, beside_on_are}
use Rattle.alias_analysis.proofs.wider.beside_on.Goals as goal

pub loop-number-init : goal.loop-number-init
loop-number-init c = marked_none c.listed-listed.result.now (IsIt (IsNewBeside c.args.flat.now c.args.update c.args.found.now c.args.marked.now)) c.in_ok-beside.beside

pub is_new_beside-requires-clause-there : goal.is_new_beside-requires-clause-there
is_new_beside-requires-clause-there c =
    let listed = c.listed-listed.result.now in
    let k = c.loop-number.number-index in
    let low = mark_within c.args.marked.now (get_or listed k 0) (listed_low c.args.marked.now listed k (get_or listed k 0) c.listed-listed.ensures c.loop-number-test.true (read_again listed k 0 c.loop-number-test.true)) in
    let size = c.requires.one_each in
    omega arith

pub mark_if-requires : goal.mark_if-requires
mark_if-requires c =
    let listed = c.listed-listed.result.now in
    let k = c.loop-number.number-index in
    let low = mark_within c.args.marked.now (get_or listed k 0) (listed_low c.args.marked.now listed k (get_or listed k 0) c.listed-listed.ensures c.loop-number-test.true (read_again listed k 0 c.loop-number-test.true)) in
    let size = c.loop-number.invariant.one_each in
    let copied = ap length c.in_ok-beside.ensures in
    let known = c.requires.known.one_each in
    let all = c.requires.one_each in
    omega arith

pub loop-number-preserved : goal.loop-number-preserved
loop-number-preserved c =
    let listed = c.listed-listed.result.now in
    let k = c.loop-number.number-index in
    listed_more (IsNewBeside c.args.flat.now c.args.update c.args.found.now c.args.marked.now) listed k (get_or listed k 0) c.in_ok-wanted.wanted c.in_ok-beside.beside c.loop-number.beside c.mark_if.new.self
    c.loop-number-test.true (read_again listed k 0 c.loop-number-test.true) c.in_ok-wanted.ensures c.loop-number.invariant c.in_ok-mark_if.ensures

pub returns : goal.returns
returns c =
    let s = c.args.flat.now in
    let y = c.args.update in
    let found = c.args.found.now in
    let marked = c.args.marked.now in
    beside_on_are s y (length s.equations) found marked c.args.known.now c.in_ok-beside.beside c.loop-number.beside c.requires.more c.requires.known c.in_ok-beside.ensures
    (added_listed (IsNewBeside s y found marked) c.loop-number.number-index c.listed-listed.result.now marked c.in_ok-beside.beside c.loop-number.beside (omega arith) c.listed-listed.ensures (λ x p. p.beside.marked) c.loop-number.invariant)
