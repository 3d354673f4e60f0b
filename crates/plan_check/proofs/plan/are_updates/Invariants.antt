use Rattle.plan_check.proofs.Fineness.{UpdatesBelow}
use Rattle.plan_check.proofs.plan.are_updates.Given as goal

abbrev pub invariant-loop-place : goal.invariant-loop-place
invariant-loop-place l = UpdatesBelow l.flat l.set l.place
