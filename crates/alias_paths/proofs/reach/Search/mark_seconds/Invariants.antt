use Rattle.std.proofs.Common.{◌≡◌, ℕ, suc, ◌≤◌, length, drop}
use Rattle.flat_core.specs.inner.Marks.{Marked}
use Rattle.translation_order.specs.inner.Taking.{seconds_of}
use Rattle.alias_paths.specs.inner.Search.{marks_of, AreListed, first_at}
use Rattle.alias_paths.proofs.reach.Search.mark_seconds.Given as goal

abbrev pub invariant-loop-next : goal.invariant-loop-next
invariant-loop-next l = record {
  within : l.next ≤ length l.links;
  at : (k : ℕ) → l.next ≡ suc k → first_at l.links k ≡ l.number;
  listed : AreListed l.fn.self → AreListed l.self;
  marked : Marked (seconds_of (drop l.next l.links) l.number) (marks_of l.fn.self) (marks_of l.self);
}

abbrev pub decreases-loop-next : goal.decreases-loop-next
decreases-loop-next l = l.next
