use Rattle.std.proofs.Common.{length}
use Rattle.flat_tests.proofs.tests.small_system.+are_typed.Given as goal

abbrev pub decreases-are_typed : goal.decreases-are_typed
decreases-are_typed l = length l.lines.now
