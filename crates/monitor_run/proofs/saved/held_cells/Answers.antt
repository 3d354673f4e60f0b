use Rattle.std.proofs.Common.{ap, ◌∙◌}
use Rattle.std.specs.List.{flat_map}
use Rattle.monitor_run.specs.inner.Saved.{cell_held}
use Rattle.monitor_run.specs.inner.Shown.{held_at}
use Rattle.monitor_run.specs.inner.Taking.{firsts_on}
use Rattle.monitor_run.proofs.Firsts.{firsts_all}
use Rattle.monitor_run.proofs.saved.held_cells.Goals as goal

pub loop-id-init : goal.loop-id-init
loop-id-init c =
    ap (λ xs. firsts_on xs (flat_map (λ v. cell_held (held_at c.args.last.now v)) c.args.keeps.now)) c.new-cells.ensures.items
    ∙ firsts_all (flat_map (λ v. cell_held (held_at c.args.last.now v)) c.args.keeps.now)
