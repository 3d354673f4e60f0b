use Rattle.std.proofs.Common.{sym, ap, ◌∙◌}
use Rattle.std.proofs.lemmas.Result.{on_ok_weaker}
use Rattle.tsl_value.specs.View.{Mapped}
use Rattle.aggregate_store.specs.inner.Stored.{with_added}
use Rattle.aggregate_store.specs.inner.CellView.{view_of}
use Rattle.aggregate_store.specs.declared.cell.Cell.{Cell}
use Rattle.aggregate_store.proofs.cell.Cell.add_copied.Goals as goal

pub returns-in-Map-clause-ok : goal.returns-in-Map-clause-ok
returns-in-Map-clause-ok c =
    on_ok_weaker c.put_copy.result (λ ok.
    ap Mapped ok ∙ sym (ap (λ (cell : Cell). with_added (view_of cell) c.args.key.now c.args.value.now) c.in-Map.is)) c.put_copy.ensures.ok
