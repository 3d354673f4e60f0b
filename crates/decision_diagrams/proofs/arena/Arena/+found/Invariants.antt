use Rattle.std.proofs.Common.{◌+◌}
use Rattle.decision_diagrams.proofs.arena.Arena.+found.Given as goal

abbrev pub decreases-found : goal.decreases-found
decreases-found l = l.pair.first + l.pair.second
