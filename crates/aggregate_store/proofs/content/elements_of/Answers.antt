use Rattle.std.proofs.Common.{rules}
use Rattle.std.specs.VecDeque.Iter.{deque_iter_rest}
use Rattle.aggregate_store.proofs.Gathered.{all_gathered}
use Rattle.aggregate_store.proofs.Listed.{none_left}
use Rattle.aggregate_store.proofs.content.elements_of.Goals as goal

pub returns-clause-elements : goal.returns-clause-elements
returns-clause-elements c = all_gathered c.loop-element.list _ (deque_iter_rest c.loop-element.element-iterator) c.loop-element.invariant.0 (none_left _ (search rules))
