use Rattle.std.proofs.Common.{◌≡◌, ◌≤◌, ℕ, Some, length, slice_get}
use Rattle.event_why.specs.inner.Pruned.{marked_before}
use Rattle.event_why.proofs.prune.new_numbers.Given as goal

abbrev pub invariant-loop-marked : goal.invariant-loop-marked
invariant-loop-marked l = record {
  few : l.next ≤ l.marked-index;
  next : l.next ≡ marked_before l.marks l.marked-index;
  one_each : length l.numbers.items ≡ l.marked-index;
  each : (k n : ℕ) → slice_get l.numbers.items k ≡ Some n → n ≡ marked_before l.marks k;
}
