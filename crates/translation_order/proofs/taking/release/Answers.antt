use Rattle.std.proofs.Common.{◌-◌, ◌<◌, length, get_or, sym, ◌∙◌, get_or-set_same, arith}
use Rattle.translation_order.proofs.Takes.{released_last, released_one, still_waits}
use Rattle.translation_order.proofs.taking.release.Goals as goal
use Rattle.translation_order.proofs.taking.release.Goals.{then-waits-place-eq0+in_ok-insert, else-waits-place-eq0}

pub overflow_sub-waits : goal.overflow_sub-waits
overflow_sub-waits c =
    let some = still_waits c.args.steps.now c.args.waits.now c.loop-step.waits c.args.free.now c.loop-step.free c.loop-step.step-index c.loop-step-test.true c.loop-step.invariant c.requires.waits in
    omega arith

pub loop-step-preserved : goal.loop-step-preserved
loop-step-preserved c =
    let some = still_waits c.args.steps.now c.args.waits.now c.loop-step.waits c.args.free.now c.loop-step.free c.loop-step.step-index c.loop-step-test.true c.loop-step.invariant c.requires.waits in
    let there = c.requires.there c.loop-step.step-index 0 c.loop-step-test.true in
    let step = get_or c.args.steps.now c.loop-step.step-index 0 in
    let low : step < length c.loop-step.waits = omega arith in
    let value = get_or-set_same c.loop-step.waits step (get_or c.loop-step.waits step 0 - 1) 0 low in
    elim c.if-waits-place-eq0.branch [
      | then-waits-place-eq0+in_ok-insert w ↦
          released_last c.args.steps.now c.args.waits.now c.loop-step.waits c.args.free.now c.loop-step.free w.insert.new.self c.if-waits-place-eq0.free c.loop-step.step-index c.loop-step-test.true c.loop-step.invariant low some w.in_ok-insert.ensures.updates (sym value ∙ w.if-waits-place-eq0.true) w.free-is
      | else-waits-place-eq0 w ↦
          released_one c.args.steps.now c.args.waits.now c.loop-step.waits c.args.free.now c.loop-step.free c.if-waits-place-eq0.free c.loop-step.step-index c.loop-step-test.true c.loop-step.invariant low some (λ z. w.if-waits-place-eq0.false (value ∙ z)) w.free-is
    ]
