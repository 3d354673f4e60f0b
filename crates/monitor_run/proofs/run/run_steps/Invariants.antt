use Rattle.std.proofs.Common.{◌-◌, length}
use Rattle.monitor_run.specs.inner.Shown.{plan_in}
use Rattle.monitor_run.proofs.VisitLemmas.{IsVisiting}
use Rattle.monitor_run.proofs.run.run_steps.Given as goal

abbrev pub invariant-loop-place : goal.invariant-loop-place
invariant-loop-place l = IsVisiting l.flat (plan_in l.plan) l.time l.at_once l.all l.fn.out l.fn.machine l.next l.visits.steps l.visits.texts l.visits.filled.items l.out l.machine l.root

abbrev pub decreases-loop-place : goal.decreases-loop-place
decreases-loop-place l = length l.plan.order - l.next
