use Rattle.std.proofs.Common.{◌≡◌, [], replicate}
use Rattle.translation_order.proofs.on_cycle.no_successors.Given as goal

abbrev pub invariant-loop : goal.invariant-loop
invariant-loop l = l.lists.items ≡ replicate l.counter []
