use Rattle.std.proofs.Common.{set, sym, ap, ◌∙◌}
use Rattle.std.proofs.lemmas.List.Edits.{map_over_more}
use Rattle.flat_core.specs.Renumbered.{new_number}
use Rattle.flat_core.proofs.lists.replace_all.Goals as goal

pub loop-id-preserved : goal.loop-id-preserved
loop-id-preserved c =
    let item = c.id-item in
    ap (set c.loop-id.ids c.loop-id.id-index) (c.new_number.ensures ∙ ap (new_number c.args.replaced.now) (sym item.is))
    ∙ map_over_more (new_number c.args.replaced.now) c.args.ids.now c.loop-id.ids c.loop-id.id-index item.result c.loop-id-test.true c.loop-id.invariant item.is
