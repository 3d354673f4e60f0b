use Rattle.std.proofs.Common.{◌≡◌, ◌+◌, length, drop, sym, ap, subst, ◌∙◌, take_at, arith}
use Rattle.std.proofs.lemmas.List.{length_push}
use Rattle.translation_order.specs.inner.Taking.{IsTaking}
use Rattle.translation_order.proofs.Takes.{what_follows_is, after_there, after_wait, taken_on, has_room}
use Rattle.translation_order.proofs.taking.take_all.Goals as goal

pub release-requires-clause-there : goal.release-requires-clause-there
release-requires-clause-there c =
    let e = c.in-Some.ensures in
    let is = what_follows_is c.args.steps c.args.pairs.now c.requires c.loop-step.listed c.loop-step.waits.items c.loop-step.free c.loop-step.invariant c.in-Some.step e.member e.least c.in_ok-seconds.seconds.items c.index.result.now c.as_slice-in-Some.result.now c.in_ok-seconds.ensures c.index.ensures c.as_slice-in-Some.ensures in
    after_there c.args.steps c.args.pairs.now c.requires c.loop-step.listed c.loop-step.waits.items c.loop-step.free c.loop-step.invariant c.in-Some.step e.member e.least c.as_slice-in-Some.result.now c.as_mut_slice.result.now is c.as_mut_slice.ensures.value

pub release-requires-clause-waits : goal.release-requires-clause-waits
release-requires-clause-waits c =
    let e = c.in-Some.ensures in
    let is = what_follows_is c.args.steps c.args.pairs.now c.requires c.loop-step.listed c.loop-step.waits.items c.loop-step.free c.loop-step.invariant c.in-Some.step e.member e.least c.in_ok-seconds.seconds.items c.index.result.now c.as_slice-in-Some.result.now c.in_ok-seconds.ensures c.index.ensures c.as_slice-in-Some.ensures in
    after_wait c.args.steps c.args.pairs.now c.requires c.loop-step.listed c.loop-step.waits.items c.loop-step.free c.loop-step.invariant c.in-Some.step e.member e.least c.as_slice-in-Some.result.now c.as_mut_slice.result.now is c.as_mut_slice.ensures.value

pub loop-step-smaller : goal.loop-step-smaller
loop-step-smaller c =
    let e = c.in-Some.ensures in
    let room = has_room c.args.steps c.args.pairs.now c.requires c.loop-step.listed c.loop-step.waits.items c.loop-step.free c.loop-step.invariant c.in-Some.step e.member e.least in
    let long : length c.push.new.self ≡ length c.loop-step.listed + 1 = ap length c.in_ok-push.ensures ∙ length_push c.loop-step.listed c.in-Some.step in
    omega arith

pub loop-step-preserved : goal.loop-step-preserved
loop-step-preserved c =
    let e = c.in-Some.ensures in
    let r = c.in_ok-release.ensures in
    let is = what_follows_is c.args.steps c.args.pairs.now c.requires c.loop-step.listed c.loop-step.waits.items c.loop-step.free c.loop-step.invariant c.in-Some.step e.member e.least c.in_ok-seconds.seconds.items c.index.result.now c.as_slice-in-Some.result.now c.in_ok-seconds.ensures c.index.ensures c.as_slice-in-Some.ensures in
    let on = taken_on c.args.steps c.args.pairs.now c.requires c.loop-step.listed c.loop-step.waits.items c.loop-step.free c.loop-step.invariant c.in-Some.step e.member e.least c.as_slice-in-Some.result.now c.as_mut_slice.result.now is c.as_mut_slice.ensures.value c.release.new.waits c.pop_first.new.self c.release.new.free c.push.new.self e.updates r c.in_ok-push.ensures in
    let long : length c.release.new.waits ≡ c.loop-step.waits.len = r.same_length ∙ c.as_mut_slice.ensures.len in
    subst (λ v. IsTaking c.args.steps c.args.pairs.now c.push.new.self v c.release.new.free) (sym (take_at c.release.new.waits (drop (length c.release.new.waits) c.loop-step.waits.items) c.loop-step.waits.len long)) on
