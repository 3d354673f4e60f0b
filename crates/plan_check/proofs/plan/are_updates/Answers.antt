use Rattle.std.proofs.Common.{refl, sym, ap, subst, ◌∙◌, arith}
use Rattle.flat_core.specs.Updates.{is_running_update}
use Rattle.alias_rules.specs.Uses.{IsUpdate}
use Rattle.plan_check.proofs.Fineness.{all_updates, no_update_at, updates_next}
use Rattle.plan_check.proofs.plan.are_updates.Goals as goal

pub returns-then-not-is_update : goal.returns-then-not-is_update
returns-then-not-is_update c =
    let s = c.args.flat.now in
    no_update_at s c.args.set.now c.loop-place.place (let low = c.loop-place-test.true in omega arith)
    (sym (ap (is_running_update s) c.update_at.ensures) ∙ sym c.is_update.ensures ∙ c.if-not-is_update.true)

pub loop-place-preserved : goal.loop-place-preserved
loop-place-preserved c =
    let s = c.args.flat.now in
    updates_next s c.args.set.now c.loop-place.place c.loop-place.invariant (subst (IsUpdate s) c.update_at.ensures (sym c.is_update.ensures ∙ c.if-not-is_update.false))

pub returns : goal.returns
returns c =
    ((λ h. all_updates c.args.flat.now c.args.set.now c.loop-place.place (let end = c.loop-place-test.false in omega arith) c.loop-place.invariant), (λ are. refl))
