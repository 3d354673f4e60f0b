use Rattle.std.proofs.Common.{sym, ap, ◌∙◌}
use Rattle.cell_reader.specs.inner.Cells.{has_key}
use Rattle.aggregate_store.specs.inner.CellView.{view_of}
use Rattle.aggregate_store.specs.declared.cell.Cell.{Cell}
use Rattle.aggregate_store.proofs.cell.Cell.contains.Goals as goal

pub returns-in-Set : goal.returns-in-Set
returns-in-Set c =
    c.contains.ensures ∙ sym (ap (λ (cell : Cell). has_key (view_of cell) c.args.key.now) c.in-Set.is)

pub returns-in-Map : goal.returns-in-Map
returns-in-Map c =
    c.has.ensures ∙ sym (ap (λ (cell : Cell). has_key (view_of cell) c.args.key.now) c.in-Map.is)
