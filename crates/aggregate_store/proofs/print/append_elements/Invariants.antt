use Rattle.std.proofs.Common.{◌≡◌, ◌++◌, length, map, take}
use Rattle.std.specs.VecDeque.Iter.{deque_iter_rest}
use Rattle.tsl_value.specs.Print.{listed, scalar_text}
use Rattle.aggregate_store.proofs.Listed.{more_text}
use Rattle.aggregate_store.proofs.print.append_elements.Given as goal

abbrev pub invariant-loop-element : goal.invariant-loop-element
invariant-loop-element l = record {
  kept : take (length l.fn.out) l.out ≡ l.fn.out;
  whole : l.out ++ more_text scalar_text (deque_iter_rest l.element-iterator) ≡ l.fn.out ++ listed (map scalar_text l.fn.elements.items);
}
