use Rattle.std.proofs.Common.{◌≡◌, ◌++◌}
use Rattle.std.specs.VecDeque.Iter.{deque_iter_rest}
use Rattle.std.specs.List.{AllByRecursion}
use Rattle.aggregate_store.specs.Content.{IsInRange}
use Rattle.aggregate_store.proofs.content.elements_of.Given as goal

abbrev pub invariant-loop-element : goal.invariant-loop-element
invariant-loop-element l = (l.list ++ deque_iter_rest l.element-iterator ≡ l.fn.elements.items) × AllByRecursion IsInRange l.list
