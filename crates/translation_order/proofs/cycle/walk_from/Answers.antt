use Rattle.std.proofs.Common.{◌≡◌, ◌+◌, false, get_or, length, refl, sym, ap, ◌∙◌, arith}
use Rattle.std.proofs.lemmas.List.{length_push, get_or_read}
use Rattle.translation_order.proofs.Walks.{walking_init, walking_more, walk_room, walked_end}
use Rattle.translation_order.proofs.cycle.walk_from.Goals as goal

pub loop-seen-init : goal.loop-seen-init
loop-seen-init c =
    walking_init c.args.before.now c.args.start c.new-steps.result c.in_ok-seen.seen.items (length c.args.before.now) c.new-steps.ensures c.in_ok-seen.ensures refl c.requires.start

pub loop-seen-smaller : goal.loop-seen-smaller
loop-seen-smaller c =
    let w = c.loop-seen.invariant in
    let long = w.one_each in
    let inside = w.inside in
    let unseen : get_or c.loop-seen.seen.items c.loop-seen.at false ≡ false = sym (get_or_read c.loop-seen.seen.items c.loop-seen.at c.index.result.now (omega arith) c.index.ensures false) ∙ c.loop-seen-test.true in
    let room = walk_room c.args.before.now c.args.start c.loop-seen.steps c.loop-seen.at c.loop-seen.seen.items w unseen in
    let longer : length c.push.new.self ≡ length c.loop-seen.steps + 1 = ap length c.in_ok-push.ensures ∙ length_push c.loop-seen.steps c.loop-seen.at in
    omega arith

pub loop-seen-preserved : goal.loop-seen-preserved
loop-seen-preserved c =
    let w = c.loop-seen.invariant in
    let long = w.one_each in
    let inside = w.inside in
    let unseen : get_or c.loop-seen.seen.items c.loop-seen.at false ≡ false = sym (get_or_read c.loop-seen.seen.items c.loop-seen.at c.index.result.now (omega arith) c.index.ensures false) ∙ c.loop-seen-test.true in
    walking_more c.args.before.now c.args.start c.loop-seen.steps c.loop-seen.at c.loop-seen.seen.items c.push.new.self c.unwrap_or-at.result w c.requires.inside unseen c.in_ok-push.ensures c.unwrap_or-at.ensures

pub returns : goal.returns
returns c =
    let w = c.loop-seen.invariant in
    let long = w.one_each in
    let inside = w.inside in
    walked_end c.args.before.now c.args.start c.loop-seen.steps c.loop-seen.at c.loop-seen.seen.items w (sym (get_or_read c.loop-seen.seen.items c.loop-seen.at c.index.result.now (omega arith) c.index.ensures false) ∙ c.loop-seen-test.false)
