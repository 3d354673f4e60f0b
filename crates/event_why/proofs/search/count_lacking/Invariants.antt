use Rattle.std.proofs.Common.{◌≤◌, ◌+◌, ℕ, drop, map}
use Rattle.event_why.specs.Said.{said}
use Rattle.event_why.specs.inner.Search.{Lack}
use Rattle.event_why.proofs.search.count_lacking.Given as goal

abbrev pub invariant-loop-fact : goal.invariant-loop-fact
invariant-loop-fact l = record {
  within : l.count ≤ l.fact-index;
  whole : (m : ℕ) → Lack (map said l.chosen) (map said (drop l.fact-index l.facts)) m → Lack (map said l.chosen) (map said l.facts) (l.count + m);
}
