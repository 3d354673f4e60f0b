use Rattle.std.proofs.Common.{◌≡◌, [], replicate}
use Rattle.call_limits.proofs.depth.no_successors.Given as goal

abbrev pub invariant-loop : goal.invariant-loop
invariant-loop l = l.lists.items ≡ replicate l.counter []
