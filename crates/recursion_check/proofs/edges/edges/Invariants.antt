use Rattle.std.proofs.Common.{◌≡◌}
use Rattle.recursion_check.specs.Feeds.{edges_of}
use Rattle.recursion_check.proofs.edges.edges.Given as goal

abbrev pub invariant-loop-number : goal.invariant-loop-number
invariant-loop-number l = l.edges ≡ edges_of l.flat l.number
