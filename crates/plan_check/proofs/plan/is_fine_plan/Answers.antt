use Rattle.plan_check.proofs.Fineness.{not_of_updates}
use Rattle.plan_check.proofs.plan.is_fine_plan.Goals as goal

pub returns-then-not-are_updates : goal.returns-then-not-are_updates
returns-then-not-are_updates c =
    let plan = c.args.plan.now in
    not_of_updates c.args.flat.now plan.in_place plan.order c.are_updates.result c.if-not-are_updates.true c.are_updates.ensures

pub is_fine_for-requires-clause-updates : goal.is_fine_for-requires-clause-updates
is_fine_for-requires-clause-updates c = c.are_updates.ensures.0 c.if-not-are_updates.false
