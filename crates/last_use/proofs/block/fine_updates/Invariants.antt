use Rattle.std.proofs.Common.{◌≤◌}
use Rattle.last_use.proofs.block.fine_updates.Given as goal

abbrev pub invariant-loop-updates : goal.invariant-loop-updates
invariant-loop-updates l = l.updates ≤ l.most

abbrev pub decreases-loop-updates : goal.decreases-loop-updates
decreases-loop-updates l = l.updates
