use Rattle.std.proofs.Common.{◌≡◌, ◌+◌, length, get_or, None, refl, sym, subst, ◌∙◌, arith}
use Rattle.std.specs.Prelude.{◌↔◌, IsTrue}
use Rattle.std.proofs.lemmas.Bool.{false≢true}
use Rattle.std.proofs.lemmas.Option.{slice_get-get_or}
use Rattle.alias_rules.specs.Steps.{step_count}
use Rattle.plan_check.specs.inner.Places.{ArePlaces, IsUnplaced}
use Rattle.plan_check.proofs.Placing.{none_placed, not_unplaced, put_next}
use Rattle.plan_check.proofs.places.places_of.Goals as goal

pub loop-place-init : goal.loop-place-init
loop-place-init c =
    none_placed c.args.flat.now c.args.order.now c.in_ok-places.places.items (step_count c.args.flat.now) None c.in_ok-places.ensures refl refl

pub returns-then-not-is_unplaced : goal.returns-then-not-is_unplaced
returns-then-not-is_unplaced c =
    let s = c.args.flat.now in
    let order = c.args.order.now in
    let n = c.loop-place.place in
    let x = get_or order n 0 in
    let so = subst (λ ps. IsTrue c.is_unplaced.result ↔ IsUnplaced s ps x) c.as_slice.ensures.value c.is_unplaced.ensures in
    not_unplaced s c.assert_whole.ensures.is_flat order n x c.loop-place.places.items c.loop-place.invariant (slice_get-get_or order n 0 c.loop-place-test.true)
    (λ one. false≢true (sym c.if-not-is_unplaced.true ∙ so.1 one))

pub put-requires : goal.put-requires
put-requires c =
    let s = c.args.flat.now in
    let x = get_or c.args.order.now c.loop-place.place 0 in
    let so = subst (λ ps. IsTrue c.is_unplaced.result ↔ IsUnplaced s ps x) c.as_slice.ensures.value c.is_unplaced.ensures in
    let low = (so.0 c.if-not-is_unplaced.false).low in
    let all = c.loop-place.invariant.one_each in
    omega arith

pub loop-place-preserved : goal.loop-place-preserved
loop-place-preserved c =
    let s = c.args.flat.now in
    let order = c.args.order.now in
    let n = c.loop-place.place in
    let x = get_or order n 0 in
    let so = subst (λ ps. IsTrue c.is_unplaced.result ↔ IsUnplaced s ps x) c.as_slice.ensures.value c.is_unplaced.ensures in
    subst (ArePlaces s order (n + 1)) (sym c.put.ensures)
    (put_next s order n x c.loop-place.places.items c.loop-place.invariant (slice_get-get_or order n 0 c.loop-place-test.true) (so.0 c.if-not-is_unplaced.false))

pub returns : goal.returns
returns c =
    let s = c.args.flat.now in
    let order = c.args.order.now in
    let all : c.loop-place.place ≡ length order = let end = c.loop-place-test.false in let low = c.loop-place.auto.place-end in omega arith in
    subst (λ n. ArePlaces s order n c.loop-place.places.items) all c.loop-place.invariant
