use Rattle.std.proofs.Common.{◌+◌}
use Rattle.decision_diagrams.proofs.arena.Arena.+joined.Given as goal

abbrev pub decreases-joined : goal.decreases-joined
decreases-joined l = l.pair.first + l.pair.second
