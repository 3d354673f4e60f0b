use Rattle.std.proofs.Common.{◌+◌, sym, subst}
use Rattle.monitor_run.proofs.ActionLemmas.{AreActionsTo, actions_push}
use Rattle.monitor_run.proofs.action.actions_of.Goals as goal

pub loop-step-preserved : goal.loop-step-preserved
loop-step-preserved c =
    let s = c.args.flat.now in
    let k = c.loop-step.step-index in
    subst (AreActionsTo s c.args.order.now (k + 1)) (sym c.in_ok-push.ensures.items)
    (actions_push s c.args.order.now k c.loop-step.actions.items c.action_at.result c.loop-step.invariant c.action_at.ensures)
