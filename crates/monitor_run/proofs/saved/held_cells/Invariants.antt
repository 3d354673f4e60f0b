use Rattle.std.proofs.Common.{◌≡◌, drop}
use Rattle.std.specs.List.{flat_map}
use Rattle.monitor_run.specs.inner.Saved.{cell_held}
use Rattle.monitor_state.specs.Firsts.{firsts}
use Rattle.monitor_run.specs.inner.Shown.{held_at}
use Rattle.monitor_run.specs.inner.Taking.{firsts_on}
use Rattle.monitor_run.proofs.saved.held_cells.Given as goal

abbrev pub invariant-loop-id : goal.invariant-loop-id
invariant-loop-id l =
    firsts_on l.cells.items (flat_map (λ v. cell_held (held_at l.last v)) (drop l.id-index l.keeps)) ≡ firsts (flat_map (λ v. cell_held (held_at l.last v)) l.keeps)
