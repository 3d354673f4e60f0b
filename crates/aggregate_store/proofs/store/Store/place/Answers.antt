use Rattle.std.proofs.Common.{rules, ◌≡◌, Some, None, length, ap, sym, subst}
use Rattle.std.specs.Prelude.{slice_index_or, slice_set}
use Rattle.cell_reader.specs.inner.Cells.{IsLive}
use Rattle.aggregate_store.specs.inner.CellView.{cells_of}
use Rattle.aggregate_store.specs.inner.Stored.{Stored}
use Rattle.aggregate_store.proofs.Cells.{not_live, placed, pushed, put_slot}
use Rattle.aggregate_store.proofs.store.Store.place.Goals as goal
use Rattle.aggregate_store.proofs.store.Store.place.Goals.{then-place-len+in-Some+in-Set-1, then-place-len+in-Some+in-Map+in-Numbers-1, then-place-len+in-Some+in-Map+in-Scalars-1, then-place-len+in-Some+in-Queue-1, then-place-len+in-None-1, else-place-len+in_ok-push}

pub returns-clause-fresh : goal.returns-clause-fresh
returns-clause-fresh c = λ live.
    let slots = c.self.inside.slots.items in let place = c.free_from-place.result in
    not_live slots place (subst (λ xs. slice_index_or xs place None ≡ None) c.deref.ensures.value c.free_from-place.ensures.free)
    (subst (IsLive (cells_of slots)) c.new.ensures (subst (λ (s : Stored). IsLive s.cells c.new.result) (sym c.self.view_is) live))

pub returns-clause-made : goal.returns-clause-made
returns-clause-made c =
    let slots = c.self.inside.slots.items in let place = c.free_from-place.result in let ledger = c.self.inside.ledger.items in
    let short = ap length c.deref.ensures.value in
    elim c.if-place-len.branch [
      | then-place-len+in-Some+in-Set-1 w ↦ rw w.self-inside-is (placed slots (slice_set slots place (Some c.args.cell)) ledger c.args.self.now place c.new.result c.args.cell c.self.view_is c.new.ensures (put_slot slots place c.args.cell (search rules)))
      | then-place-len+in-Some+in-Map+in-Numbers-1 w ↦ rw w.self-inside-is (placed slots (slice_set slots place (Some c.args.cell)) ledger c.args.self.now place c.new.result c.args.cell c.self.view_is c.new.ensures (put_slot slots place c.args.cell (search rules)))
      | then-place-len+in-Some+in-Map+in-Scalars-1 w ↦ rw w.self-inside-is (placed slots (slice_set slots place (Some c.args.cell)) ledger c.args.self.now place c.new.result c.args.cell c.self.view_is c.new.ensures (put_slot slots place c.args.cell (search rules)))
      | then-place-len+in-Some+in-Queue-1 w ↦ rw w.self-inside-is (placed slots (slice_set slots place (Some c.args.cell)) ledger c.args.self.now place c.new.result c.args.cell c.self.view_is c.new.ensures (put_slot slots place c.args.cell (search rules)))
      | then-place-len+in-None-1 w ↦ rw w.self-inside-is (placed slots (slice_set slots place (Some c.args.cell)) ledger c.args.self.now place c.new.result c.args.cell c.self.view_is c.new.ensures (put_slot slots place c.args.cell (search rules)))
      | else-place-len+in_ok-push w ↦ rw w.self-inside-is (placed slots w.push.new.self.items ledger c.args.self.now place c.new.result c.args.cell c.self.view_is c.new.ensures (pushed slots w.push.new.self.items place c.args.cell w.in_ok-push.ensures.items (search rules)))
    ]
