use Rattle.std.proofs.Common.{◌<◌, sym, subst, ap, ◌∙◌}
use Rattle.aggregate_store.specs.inner.Stored.{without_front}
use Rattle.aggregate_store.proofs.Cells.{changed, not_free, seen, within}
use Rattle.aggregate_store.proofs.store.Store.dequeue_in_place.Goals as goal

pub index_mut-requires : goal.index_mut-requires
index_mut-requires c =
    subst (λ n. c.get.result < n) (sym c.self.inside.slots.ok.0)
    (within c.self.inside.slots.items c.self.inside.ledger.items c.args.self.now c.self.view_is c.get.result c.args.cell c.get.ensures c.requires.live)

pub unreachable-requires : goal.unreachable-requires
unreachable-requires c =
    not_free c.self.inside.slots.items c.self.inside.ledger.items c.args.self.now c.self.view_is c.get.result c.args.cell c.get.ensures c.requires.live
    c.index_mut.result.now c.index_mut.ensures.value c.in-None.is

pub returns : goal.returns
returns c =
    let was = seen c.self.inside.slots.items c.self.inside.ledger.items c.args.self.now c.self.view_is c.get.result c.args.cell c.get.ensures c.requires.live c.index_mut.result.now c.index_mut.ensures.value c.in-Some.cell c.in-Some.is in
    changed c.self.inside.slots.items c.self.inside.ledger.items c.args.self.now c.self.view_is c.get.result c.args.cell c.get.ensures c.requires.live c.dequeue.new.self _
    (c.dequeue.ensures ∙ ap without_front was)
