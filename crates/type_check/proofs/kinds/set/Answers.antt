use Rattle.std.proofs.Common.{OnOk, sym, subst}
use Rattle.std.proofs.lemmas.Result.{on_ok_weaker}
use Rattle.expr_types.specs.inner.Shown.{kinds_of}
use Rattle.type_check.specs.inner.Slots.{IsSet}
use Rattle.type_check.proofs.KindLemmas.{item_is_set, local_is_set}
use Rattle.type_check.proofs.kinds.set.Goals as goal

pub returns-in-Item : goal.returns-in-Item
returns-in-Item c =
    let old = kinds_of c.args.kinds.now in
    let new = kinds_of c.set_item.new.self in
    subst (λ s. OnOk c.set_item.result (IsSet old new s c.args.kind)) (sym c.in-Item.is)
    (on_ok_weaker c.set_item.result (item_is_set old new c.in-Item.number c.args.kind c.set_item.ensures.others c.set_item.ensures.locals) c.set_item.ensures.set)

pub returns-in-Local : goal.returns-in-Local
returns-in-Local c =
    let old = kinds_of c.args.kinds.now in
    let new = kinds_of c.set_local.new.self in
    subst (λ s. OnOk c.set_local.result (IsSet old new s c.args.kind)) (sym c.in-Local.is)
    (on_ok_weaker c.set_local.result (local_is_set old new c.in-Local.number c.in-Local.local c.args.kind c.set_local.ensures.others c.set_local.ensures.items) c.set_local.ensures.set)
