use Rattle.std.proofs.Common.{◌↔◌, Contains, drop, map}
use Rattle.event_why.specs.Said.{said}
use Rattle.event_why.proofs.search.is_among.Given as goal

abbrev pub invariant-loop-other : goal.invariant-loop-other
invariant-loop-other l = Contains (map said (drop l.other-index l.facts)) (said l.fact) ↔ Contains (map said l.facts) (said l.fact)
