use Rattle.std.proofs.Common.{◌-◌, length}
use Rattle.monitor_run.proofs.EventLemmas.{AreMoved}
use Rattle.monitor_run.proofs.event.append_texts.Given as goal

abbrev pub invariant-loop-output : goal.invariant-loop-output
invariant-loop-output l = AreMoved l.fn.texts l.texts l.fn.out l.out l.marked l.next

abbrev pub decreases-loop-output : goal.decreases-loop-output
decreases-loop-output l = length l.fn.texts - l.next
