use Rattle.std.proofs.Common.{◌≡◌, ℕ, suc, ◌≤◌, length}
use Rattle.alias_paths.specs.inner.Search.{marks_of, AreListed, MarkedAll, first_at}
use Rattle.alias_nears.proofs.Circling.{IsAroundFrom}
use Rattle.alias_analysis.proofs.around.mark_around.Given as goal

abbrev pub invariant-loop-next : goal.invariant-loop-next
invariant-loop-next l = record {
  within : l.next ≤ length l.carriers;
  at : (k : ℕ) → l.next ≡ suc k → first_at l.carriers k ≡ l.number;
  listed : AreListed l.initial.search → AreListed l.search;
  marked : MarkedAll (IsAroundFrom l.flat l.update l.carriers l.number l.next) (marks_of l.initial.search) (marks_of l.search);
}

abbrev pub decreases-loop-next : goal.decreases-loop-next
decreases-loop-next l = l.next
