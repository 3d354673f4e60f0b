use Rattle.monitor_run.proofs.ActionLemmas.{AreActionsTo}
use Rattle.monitor_run.proofs.action.actions_of.Given as goal

abbrev pub invariant-loop-step : goal.invariant-loop-step
invariant-loop-step l = AreActionsTo l.fn.flat l.fn.order l.step-index l.actions.items
