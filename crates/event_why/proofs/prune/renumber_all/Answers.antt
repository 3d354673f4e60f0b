use Rattle.std.proofs.Common.{◌<◌, None, get_or, length, set, ap, ◌∙◌, arith}
use Rattle.std.proofs.lemmas.List.{get_or_default}
use Rattle.std.proofs.lemmas.List.Edits.{map_over_more}
use Rattle.std.specs.Option.{option_map}
use Rattle.event_why.specs.inner.Pruned.{new_number}
use Rattle.event_why.proofs.prune.renumber_all.Goals as goal

pub loop-number-preserved : goal.loop-number-preserved
loop-number-preserved c =
    let k = c.loop-number.number-index in
    let n = get_or c.loop-number.known k None in
    let low : c.loop-number.number-index < length c.loop-number.known = omega arith in
    ap (set c.loop-number.known k) c.renumbered_some.ensures
    ∙ map_over_more (option_map (new_number c.args.numbers.now)) c.args.known.now c.loop-number.known k n c.loop-number-test.true c.loop-number.invariant (get_or_default c.loop-number.known k None n low)
