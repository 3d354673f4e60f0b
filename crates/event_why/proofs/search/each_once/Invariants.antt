use Rattle.std.proofs.Common.{map, take}
use Rattle.event_why.specs.Said.{said}
use Rattle.event_why.specs.Check.{HaveSame}
use Rattle.event_why.specs.inner.Search.{AreDistinct}
use Rattle.event_why.proofs.search.each_once.Given as goal

abbrev pub invariant-loop-fact : goal.invariant-loop-fact
invariant-loop-fact l = record {
  same : HaveSame (map said l.once.items) (map said (take l.fact-index l.facts));
  distinct : AreDistinct (map said l.once.items);
}
