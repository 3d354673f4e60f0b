use Rattle.std.proofs.Common.{ℕ, Option, Global, Vec, subst}
use Rattle.std.specs.Prelude.{◌↔◌, IsTrue}
use Rattle.translation_order.specs.Order.{Before}
use Rattle.plan_check.specs.inner.Places.{IsWhole}
use Rattle.plan_check.proofs.Ordering.{exactly_ordered, no_order, none_placed_in, placed_in}
use Rattle.plan_check.proofs.plan.is_order.Goals as goal

pub returns-in-Some : goal.returns-in-Some
returns-in-Some c =
    let s = c.args.flat.now in
    let order = c.args.order.now in
    let places = c.in-Some.places.items in
    let placed = placed_in (λ (v : Vec (Option ℕ) Global). v.items) s c.as_slice.result.now order c.in_ok-places.field-0 c.in-Some.places c.as_slice.ensures c.in-Some.is c.in_ok-places.ensures in
    let exact = subst (λ ps. IsTrue c.is_whole.result ↔ IsWhole s places ps) c.as_slice-in-Some-2.ensures (subst (λ ps. IsTrue c.is_whole.result ↔ IsWhole s ps c.as_slice-in-Some-2.result.now) c.as_slice-in-Some.ensures.value c.is_whole.ensures) in
    exactly_ordered s order places placed c.assert_whole.ensures.is_flat c.args.pairs.now c.is_whole.result exact

pub returns-in-None : goal.returns-in-None
returns-in-None c =
    let s = c.args.flat.now in
    no_order s (Before c.args.pairs.now) c.args.order.now (none_placed_in (λ (v : Vec (Option ℕ) Global). v.items) s c.as_slice.result.now c.args.order.now c.in_ok-places.field-0 c.as_slice.ensures c.in-None.is c.in_ok-places.ensures)
