use Rattle.std.proofs.Common.{sym, ap, ◌∙◌}
use Rattle.tsl_value.specs.Aggregate.{size_of}
use Rattle.aggregate_store.specs.inner.CellView.{view_of}
use Rattle.aggregate_store.specs.declared.cell.Cell.{Cell}
use Rattle.aggregate_store.proofs.cell.Cell.size.Goals as goal

pub returns-in-Set : goal.returns-in-Set
returns-in-Set c =
    c.len.ensures ∙ sym (ap (λ (cell : Cell). size_of (view_of cell)) c.in-Set.is)

pub returns-in-Map : goal.returns-in-Map
returns-in-Map c =
    c.len-in-Map.ensures ∙ sym (ap (λ (cell : Cell). size_of (view_of cell)) c.in-Map.is)

pub returns-in-Queue : goal.returns-in-Queue
returns-in-Queue c =
    c.len-in-Queue.ensures ∙ c.in-Queue.elements.ok.0
    ∙ sym (ap (λ (cell : Cell). size_of (view_of cell)) c.in-Queue.is)
