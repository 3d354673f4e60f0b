use Rattle.std.proofs.Common.{Contains, filter, map, take}
use Rattle.std.specs.List.{AllByRecursion}
use Rattle.flat_core.specs.Instant.{is_delay}
use Rattle.flat_core.specs.System.{equation}
use Rattle.why_rules.specs.Rules.{AllWait}
use Rattle.event_why.specs.Said.{said}
use Rattle.event_why.proofs.gap.all_waiting.Given as goal

abbrev pub invariant-loop-place : goal.invariant-loop-place
invariant-loop-place l = record {
  waits : AllWait l.before l.to (filter (λ i. is_delay (equation l.grounds.flat.now i)) (take l.place l.grounds.slice.now)) (map said l.uses.items);
  among : AllByRecursion (Contains (map said l.facts)) (map said l.uses.items);
}
