use Rattle.std.proofs.Common.{sym, ap, ◌∙◌}
use Rattle.cell_reader.specs.inner.Cells.{value_at}
use Rattle.aggregate_store.specs.inner.CellView.{view_of}
use Rattle.aggregate_store.specs.declared.cell.Cell.{Cell}
use Rattle.aggregate_store.proofs.cell.Cell.get.Goals as goal

pub returns-in-Map : goal.returns-in-Map
returns-in-Map c =
    c.value_at.ensures ∙ sym (ap (λ (cell : Cell). value_at (view_of cell) c.args.key.now) c.in-Map.is)
