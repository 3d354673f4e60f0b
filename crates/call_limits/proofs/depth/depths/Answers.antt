use Rattle.std.proofs.Common.{List, ℕ, ◌<◌, [], length, get_or, All, sym, ap, subst, ◌∙◌, arith}
use Rattle.call_limits.specs.inner.Depths.{IsDepthBy}
use Rattle.call_limits.proofs.DepthLemmas.{read_is, is_item, counted_below, passed_below, known_turn, all_known}
use Rattle.call_limits.proofs.depth.depths.Goals as goal

pub bounds-counted-place : goal.bounds-counted-place
bounds-counted-place c = is_item c.args.counted.now c.args.passed.now (length c.args.counted.now) c.args.order.now c.requires.after c.loop-item.item-index c.loop-item-test.true

pub bounds-passed-place : goal.bounds-passed-place
bounds-passed-place c =
    let low = is_item c.args.counted.now c.args.passed.now (length c.args.counted.now) c.args.order.now c.requires.after c.loop-item.item-index c.loop-item-test.true in
    omega (arith, c.requires.same)

pub depth_by-depth-requires-clause-counted : goal.depth_by-depth-requires-clause-counted
depth_by-depth-requires-clause-counted c =
    let low = is_item c.args.counted.now c.args.passed.now (length c.args.counted.now) c.args.order.now c.requires.after c.loop-item.item-index c.loop-item-test.true in
    let is = read_is c.args.counted.now (get_or c.args.order.now c.loop-item.item-index 0) c.index-counted-place.result c.as_slice.result.now low c.index-counted-place.is c.as_slice.ensures in
    let P : List ℕ → Type 0 = λ l. All (λ y. y < length c.deref.result.now) l in
    subst P (sym is)
    (counted_below c.args.counted.now c.args.passed.now (length c.args.counted.now) c.args.order.now c.requires.after c.loop-item.item-index c.deref.result.now c.loop-item-test.true (ap (λ l. length l) c.deref.ensures.value ∙ c.loop-item.invariant.one_each))

pub depth_by-depth-requires-clause-passed : goal.depth_by-depth-requires-clause-passed
depth_by-depth-requires-clause-passed c =
    let low = is_item c.args.counted.now c.args.passed.now (length c.args.counted.now) c.args.order.now c.requires.after c.loop-item.item-index c.loop-item-test.true in
    let there : get_or c.args.order.now c.loop-item.item-index 0 < length c.args.passed.now = omega (arith, c.requires.same) in
    let is = read_is c.args.passed.now (get_or c.args.order.now c.loop-item.item-index 0) c.index-passed-place.result c.as_slice-in-loop-item.result.now there c.index-passed-place.is c.as_slice-in-loop-item.ensures in
    let P : List ℕ → Type 0 = λ l. All (λ y. y < length c.deref.result.now) l in
    subst P (sym is)
    (passed_below c.args.counted.now c.args.passed.now (length c.args.counted.now) c.args.order.now c.requires.after c.loop-item.item-index c.deref.result.now c.loop-item-test.true (ap (λ l. length l) c.deref.ensures.value ∙ c.loop-item.invariant.one_each))

pub index_mut-requires : goal.index_mut-requires
index_mut-requires c =
    let low = is_item c.args.counted.now c.args.passed.now (length c.args.counted.now) c.args.order.now c.requires.after c.loop-item.item-index c.loop-item-test.true in
    omega (arith, c.loop-item.invariant.one_each)

pub loop-item-preserved : goal.loop-item-preserved
loop-item-preserved c =
    let x = get_or c.args.order.now c.loop-item.item-index 0 in
    let low = is_item c.args.counted.now c.args.passed.now (length c.args.counted.now) c.args.order.now c.requires.after c.loop-item.item-index c.loop-item-test.true in
    let there : x < length c.args.passed.now = omega (arith, c.requires.same) in
    let counted = read_is c.args.counted.now x c.index-counted-place.result c.as_slice.result.now low c.index-counted-place.is c.as_slice.ensures in
    let passed = read_is c.args.passed.now x c.index-passed-place.result c.as_slice-in-loop-item.result.now there c.index-passed-place.is c.as_slice-in-loop-item.ensures in
    let P : List ℕ → Type 0 = λ l. IsDepthBy c.loop-item.depths.items l (get_or c.args.passed.now x []) c.depth_by-depth.result in
    let Q : List ℕ → Type 0 = λ l. IsDepthBy c.loop-item.depths.items c.as_slice.result.now l c.depth_by-depth.result in
    let R : List ℕ → Type 0 = λ l. IsDepthBy l c.as_slice.result.now c.as_slice-in-loop-item.result.now c.depth_by-depth.result in
    known_turn c.args.counted.now c.args.passed.now (length c.args.counted.now) c.args.order.now c.requires.after c.loop-item.item-index c.depth_by-depth.result c.loop-item.depths.items c.loop-item-test.true c.loop-item.invariant
    (subst P counted (subst Q passed (subst R c.deref.ensures.value c.depth_by-depth.ensures)))

pub returns : goal.returns
returns c = all_known c.args.counted.now c.args.passed.now (length c.args.counted.now) c.args.order.now c.requires.after c.loop-item.item-index c.loop-item.depths.items c.loop-item-test.false c.loop-item.invariant
