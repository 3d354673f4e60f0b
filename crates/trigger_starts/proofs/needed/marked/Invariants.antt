use Rattle.std.proofs.Common.{◌≡◌, ℕ, ◌<◌, ◌≤◌, get_or, length}
use Rattle.std.specs.Prelude.{IsTrue}
use Rattle.trigger_starts.specs.inner.Rules.{UsedMarked, is_marked}
use Rattle.trigger_starts.proofs.needed.marked.Given as goal

abbrev pub invariant-loop-index : goal.invariant-loop-index
invariant-loop-index l = record {
  one_each : length l.marks.items ≡ length l.rules;
  own : IsTrue (is_marked l.marks.items l.fn.a);
  closed : (k : ℕ) → l.index ≤ k → k < length l.order → UsedMarked l.rules l.marks.items (get_or l.order k 0);
}
