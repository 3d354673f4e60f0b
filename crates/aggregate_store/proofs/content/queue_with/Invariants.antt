use Rattle.std.proofs.Common.{◌≡◌, take}
use Rattle.aggregate_store.proofs.content.queue_with.Given as goal

abbrev pub invariant-loop-element : goal.invariant-loop-element
invariant-loop-element l = l.elements.items ≡ take l.element-index l.list
