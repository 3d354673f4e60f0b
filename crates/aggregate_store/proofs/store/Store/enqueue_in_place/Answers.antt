use Rattle.std.proofs.Common.{◌<◌, sym, subst, ap, ◌∙◌}
use Rattle.std.proofs.lemmas.Result.{on_ok_weaker, on_err_weaker}
use Rattle.tsl_value.specs.View.{View}
use Rattle.aggregate_store.specs.inner.Stored.{with_last}
use Rattle.aggregate_store.proofs.Cells.{changed, not_free, seen, unchanged, within}
use Rattle.aggregate_store.proofs.store.Store.enqueue_in_place.Goals as goal

pub index_mut-requires : goal.index_mut-requires
index_mut-requires c =
    subst (λ n. c.get.result < n) (sym c.self.inside.slots.ok.0)
    (within c.self.inside.slots.items c.self.inside.ledger.items c.args.self.now c.self.view_is c.get.result c.args.cell c.get.ensures c.requires.live)

pub unreachable-requires : goal.unreachable-requires
unreachable-requires c =
    not_free c.self.inside.slots.items c.self.inside.ledger.items c.args.self.now c.self.view_is c.get.result c.args.cell c.get.ensures c.requires.live
    c.index_mut.result.now c.index_mut.ensures.value c.in-None.is

pub returns-clause-changed : goal.returns-clause-changed
returns-clause-changed c =
    let was = seen c.self.inside.slots.items c.self.inside.ledger.items c.args.self.now c.self.view_is c.get.result c.args.cell c.get.ensures c.requires.live c.index_mut.result.now c.index_mut.ensures.value c.in-Some.cell c.in-Some.is in
    on_ok_weaker c.enqueue.result (λ ok.
    changed c.self.inside.slots.items c.self.inside.ledger.items c.args.self.now c.self.view_is c.get.result c.args.cell c.get.ensures c.requires.live c.enqueue.new.self _
    (ok ∙ ap (λ (v : View). with_last v c.args.value.now) was)) c.enqueue.ensures.ok

pub returns-clause-err : goal.returns-clause-err
returns-clause-err c =
    on_err_weaker c.enqueue.result (λ err.
    unchanged c.self.inside.slots.items c.self.inside.ledger.items c.args.self.now c.self.view_is c.get.result c.args.cell c.get.ensures c.requires.live
    c.index_mut.result.now c.index_mut.ensures.value c.in-Some.cell c.enqueue.new.self c.in-Some.is err) c.enqueue.ensures.err
