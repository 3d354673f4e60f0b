use Rattle.std.proofs.Common.{sym, ap, ◌∙◌}
use Rattle.std.proofs.lemmas.Result.{on_ok_weaker}
use Rattle.tsl_value.specs.View.{Listed}
use Rattle.aggregate_store.specs.inner.Stored.{with_last}
use Rattle.aggregate_store.specs.inner.CellView.{view_of}
use Rattle.aggregate_store.specs.declared.cell.Cell.{Cell}
use Rattle.aggregate_store.proofs.cell.Cell.enqueue.Goals as goal

pub returns-in-Queue-clause-ok : goal.returns-in-Queue-clause-ok
returns-in-Queue-clause-ok c =
    on_ok_weaker c.push_last.result (λ ok.
    ap Listed ok ∙ sym (ap (λ (cell : Cell). with_last (view_of cell) c.args.value.now) c.in-Queue.is)) c.push_last.ensures.ok
