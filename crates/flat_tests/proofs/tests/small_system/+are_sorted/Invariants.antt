use Rattle.std.proofs.Common.{length}
use Rattle.flat_tests.proofs.tests.small_system.+are_sorted.Given as goal

abbrev pub decreases-are_sorted : goal.decreases-are_sorted
decreases-are_sorted l = length l.lines.now
