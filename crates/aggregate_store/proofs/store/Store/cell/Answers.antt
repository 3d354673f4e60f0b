use Rattle.std.proofs.Common.{◌<◌, sym, subst}
use Rattle.aggregate_store.proofs.Cells.{not_free, seen, within}
use Rattle.aggregate_store.proofs.store.Store.cell.Goals as goal

pub index-requires : goal.index-requires
index-requires c =
    subst (λ n. c.get.result < n) (sym c.self.inside.slots.ok.0)
    (within c.self.inside.slots.items c.self.inside.ledger.items c.args.self.now c.self.view_is c.get.result c.args.handle c.get.ensures c.requires)

pub unreachable-requires : goal.unreachable-requires
unreachable-requires c =
    not_free c.self.inside.slots.items c.self.inside.ledger.items c.args.self.now c.self.view_is c.get.result c.args.handle c.get.ensures c.requires
    c.index.result.now c.index.ensures c.in-None.is

pub returns : goal.returns
returns c =
    seen c.self.inside.slots.items c.self.inside.ledger.items c.args.self.now c.self.view_is c.get.result c.args.handle c.get.ensures c.requires
    c.index.result.now c.index.ensures c.in-Some.cell c.in-Some.is
