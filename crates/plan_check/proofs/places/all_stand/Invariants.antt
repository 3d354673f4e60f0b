use Rattle.plan_check.proofs.Placing.{StandBelow}
use Rattle.plan_check.proofs.places.all_stand.Given as goal

abbrev pub invariant-loop-number : goal.invariant-loop-number
invariant-loop-number l = StandBelow l.flat l.places l.number
