use Rattle.std.proofs.Common.{◌<◌, get_or, length, set, ap, ◌∙◌, arith}
use Rattle.std.proofs.lemmas.List.{get_or_default}
use Rattle.std.proofs.lemmas.List.Edits.{map_over_more}
use Rattle.event_why.specs.inner.Pruned.{new_number}
use Rattle.event_why.proofs.prune.renumber.Goals as goal

pub loop-n-preserved : goal.loop-n-preserved
loop-n-preserved c =
    let k = c.loop-n.n-index in
    let n = get_or c.loop-n.by k 0 in
    let low : c.loop-n.n-index < length c.loop-n.by = omega arith in
    ap (set c.loop-n.by k) c.renumbered.ensures
    ∙ map_over_more (new_number c.args.numbers.now) c.args.by.now c.loop-n.by k n c.loop-n-test.true c.loop-n.invariant (get_or_default c.loop-n.by k 0 n low)
