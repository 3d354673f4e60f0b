use Rattle.std.proofs.Common.{sym, ap, ◌∙◌}
use Rattle.cell_reader.specs.inner.Cells.{front_of}
use Rattle.aggregate_store.specs.inner.CellView.{view_of}
use Rattle.aggregate_store.specs.declared.cell.Cell.{Cell}
use Rattle.aggregate_store.proofs.Queues.{front_found}
use Rattle.aggregate_store.proofs.cell.Cell.front.Goals as goal

pub returns-in-Queue : goal.returns-in-Queue
returns-in-Queue c =
    front_found c.in-Queue.elements.items c.in-Queue.elements.len c.front.result c.in-Queue.elements.ok.0 c.front.ensures.variant c.front.ensures.lookup
    ∙ sym (ap (λ (cell : Cell). front_of (view_of cell)) c.in-Queue.is)
