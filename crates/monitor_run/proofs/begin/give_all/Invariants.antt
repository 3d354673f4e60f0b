use Rattle.std.proofs.Common.{length, vec_len}
use Rattle.std.specs.Prelude.{IsFalse}
use Rattle.monitor_run.specs.inner.Given.{AreThere}
use Rattle.monitor_run.specs.inner.Visits.{AreFilled}
use Rattle.monitor_run.proofs.BeginLemmas.{AreMoving}
use Rattle.monitor_run.proofs.begin.give_all.Given as goal

abbrev pub invariant-loop-line : goal.invariant-loop-line
invariant-loop-line l = record {
  moving : AreMoving l.fn.given.items l.given.items l.fn.registers l.registers;
  there : AreThere (length l.registers) l.given.items;
  filled_are : IsFalse l.all → AreFilled l.fn.filled.items l.fn.registers → AreFilled l.filled.items l.registers;
}

abbrev pub decreases-loop-line : goal.decreases-loop-line
decreases-loop-line l = vec_len l.given
