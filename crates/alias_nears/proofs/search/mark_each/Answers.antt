use Rattle.std.proofs.Common.{length, get_or, arith}
use Rattle.flat_core.proofs.MarkLemmas.{marked_none, marked_more, mark_within}
use Rattle.alias_paths.specs.inner.Search.{marks_of}
use Rattle.alias_paths.proofs.Adding.{read_again, listed_low}
use Rattle.alias_nears.proofs.GoingOn.{marked_each}
use Rattle.alias_nears.proofs.search.mark_each.Goals as goal

pub loop-number-init : goal.loop-number-init
loop-number-init c = record { marked = marked_none (marks_of c.args.search.now); listed = λ h. h }

pub mark-requires : goal.mark-requires
mark-requires c =
    let listed = c.listed-listed.result.now in
    let k = c.loop-number.number-index in
    let low = mark_within c.args.numbers.now (get_or listed k 0) (listed_low c.args.numbers.now listed k (get_or listed k 0) c.listed-listed.ensures c.loop-number-test.true (read_again listed k 0 c.loop-number-test.true)) in
    let size = c.loop-number.invariant.marked.one_each in
    let all = c.requires in
    omega arith

pub loop-number-preserved : goal.loop-number-preserved
loop-number-preserved c =
    let listed = c.listed-listed.result.now in
    let k = c.loop-number.number-index in
    record {
      marked = marked_more listed k (marks_of c.args.search.now) (marks_of c.loop-number.search) (marks_of c.mark.new.self) (get_or listed k 0) c.loop-number-test.true (read_again listed k 0 c.loop-number-test.true) c.loop-number.invariant.marked c.in_ok-mark.ensures.marked;
      listed = λ h. c.in_ok-mark.ensures.listed (c.loop-number.invariant.listed h);
    }

pub returns-clause-marked : goal.returns-clause-marked
returns-clause-marked c =
    marked_each c.args.numbers.now c.listed-listed.result.now c.loop-number.number-index (marks_of c.args.search.now) (marks_of c.loop-number.search) c.listed-listed.ensures (omega arith) c.loop-number.invariant.marked
