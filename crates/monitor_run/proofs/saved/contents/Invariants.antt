use Rattle.std.proofs.Common.{◌≡◌, ◌<◌, ◌^◌, ◌++◌, map, drop}
use Rattle.std.specs.List.{AllByRecursion}
use Rattle.cell_reader.specs.inner.Cells.{view_at}
use Rattle.aggregate_store.specs.Content.{AllIn, IsInRange, content_of, content_size}
use Rattle.monitor_run.proofs.saved.contents.Given as goal

abbrev pub invariant-loop-cell : goal.invariant-loop-cell
invariant-loop-cell l =
    (l.list ++ map (λ h. content_of (view_at l.store.cells h)) (drop l.cell-index l.cells) ≡ map (λ h. content_of (view_at l.store.cells h)) l.cells)
    × AllByRecursion (AllIn IsInRange) l.list
    × AllByRecursion (λ c. content_size c < 2 ^ 64) l.list
