use Rattle.std.proofs.Common.{sym, ap, ◌∙◌}
use Rattle.tsl_value.specs.View.{Listed}
use Rattle.aggregate_store.specs.inner.Stored.{without_front}
use Rattle.aggregate_store.specs.inner.CellView.{view_of}
use Rattle.aggregate_store.specs.declared.cell.Cell.{Cell}
use Rattle.aggregate_store.proofs.Queues.{first_dropped}
use Rattle.aggregate_store.proofs.cell.Cell.dequeue.Goals as goal

pub returns-in-Queue : goal.returns-in-Queue
returns-in-Queue c =
    ap Listed c.drop_first.ensures ∙ first_dropped c.in-Queue.elements.items
    ∙ sym (ap (λ (cell : Cell). without_front (view_of cell)) c.in-Queue.is)
