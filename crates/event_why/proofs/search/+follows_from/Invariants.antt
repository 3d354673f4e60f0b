use Rattle.std.proofs.Common.{◌≡◌, ◌++◌, ◌∷◌, ◌-◌, [], Contains, map, take}
use Rattle.flat_core.specs.Line.{inputs_of}
use Rattle.why_rules.specs.Facts.{Fact}
use Rattle.event_why.specs.Said.{said}
use Rattle.event_why.specs.inner.Search.{EndsWell, FollowsSo}
use Rattle.event_why.proofs.search.+follows_from.Given as goal

abbrev pub decreases-follows_from : goal.decreases-follows_from
decreases-follows_from l = l.room

abbrev pub invariant-loop-next : goal.invariant-loop-next
invariant-loop-next l = record {
  chosen : map said l.chosen.items ≡ map said l.fn.chosen.items;
  none :
      (f : Fact) → Contains (map said (take l.next-index l.named)) f →
      ¬ EndsWell (FollowsSo l.grounds.flat.now l.grounds.slice.now (inputs_of l.grounds.lines.now) (said l.fact)) (map said l.named) (map said l.fn.chosen.items ++ f ∷ []) (l.room - 1);
}
