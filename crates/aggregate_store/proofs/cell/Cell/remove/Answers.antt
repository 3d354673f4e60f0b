use Rattle.std.proofs.Common.{sym, ap, ◌∙◌}
use Rattle.tsl_value.specs.View.{Keyed, Mapped}
use Rattle.aggregate_store.specs.inner.Stored.{without_key}
use Rattle.aggregate_store.specs.inner.CellView.{view_of}
use Rattle.aggregate_store.specs.declared.cell.Cell.{Cell}
use Rattle.aggregate_store.proofs.cell.Cell.remove.Goals as goal

pub returns-in-Set : goal.returns-in-Set
returns-in-Set c =
    ap Keyed c.remove.ensures
    ∙ sym (ap (λ (cell : Cell). without_key (view_of cell) c.args.key.now) c.in-Set.is)

pub returns-in-Map : goal.returns-in-Map
returns-in-Map c =
    ap Mapped c.remove-in-Map.ensures
    ∙ sym (ap (λ (cell : Cell). without_key (view_of cell) c.args.key.now) c.in-Map.is)
