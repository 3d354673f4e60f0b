use Rattle.std.proofs.Common.{refl, arith}
use Rattle.flat_core.specs.inner.Marks.{has_mark}
use Rattle.alias_paths.proofs.Sharers.{marked_pairs_next, marked_pairs_all}
use Rattle.alias_paths.proofs.sharing.push_marked.Goals as goal

pub loop-index-preserved : goal.loop-index-preserved
loop-index-preserved c =
    let marks = c.args.marks.now in
    let k = c.loop-index.index in
    marked_pairs_next c.args.number marks k k (has_mark marks k) c.args.pairs.now c.loop-index.pairs c.push_if.new.pairs refl refl c.loop-index.invariant c.in_ok-push_if.ensures

pub returns : goal.returns
returns c = marked_pairs_all c.args.number c.args.marks.now c.loop-index.index c.args.pairs.now c.loop-index.pairs (omega arith) c.loop-index.invariant
