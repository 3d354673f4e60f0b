use Rattle.std.proofs.Common.{arith}
use Rattle.std.proofs.lemmas.Result.{err_from_is_err_and}
use Rattle.spec_parser.proofs.ItemLoops.{item_passes, item_fails, no_item, item_shorter, items_end}
use Rattle.spec_parser.proofs.item.items.Goals as goal

pub items-smaller : goal.items-smaller
items-smaller c =
    let h = item_shorter c.args.room c.items.items.items c.items.rest.now c.in-Some.token.now c.in-Some.after.now _ c.in-Some.ensures.cases.0 c.items.invariant c.in-Some-2.item c.in-Some-2.left (rw c.in-Some-2.is at c.in_ok-item_at.ensures) in
    let k = c.in-Some.ensures.cases.1 in
    omega arith

pub items-preserved : goal.items-preserved
items-preserved c = rw c.in_ok-push-in-Some-2.ensures.items (item_passes c.args.room c.items.items.items c.items.rest.now c.in-Some.token.now c.in-Some.after.now _ c.in-Some.ensures.cases.0 c.items.invariant c.in-Some-2.item c.in-Some-2.left (rw c.in-Some-2.is at c.in_ok-item_at.ensures))

pub returns-in-None : goal.returns-in-None
returns-in-None c = no_item c.args.room c.items.items.items c.items.rest.now c.in-Some.token.now c.in-Some.after.now _ c.in-Some.ensures.cases.0 c.items.invariant (rw c.in-None.is at c.in_ok-item_at.ensures)

pub returns-in_err-item_at : goal.returns-in_err-item_at
returns-in_err-item_at c =
    let p = err_from_is_err_and c.from_residual.result c.from_residual.ensures.1 in
    rw (p.1, p.2) (item_fails c.args.room c.items.items.items c.items.rest.now c.in-Some.token.now c.in-Some.after.now _ c.in-Some.ensures.cases.0 c.items.invariant c.in_err-item_at.field-0.0 c.in_err-item_at.ensures)

pub returns : goal.returns
returns c = items_end c.args.room c.items.items.items c.items.rest.now _ c.in_default.ensures.cases c.items.invariant
