use Rattle.std.proofs.Common.{Contains, map, take}
use Rattle.why_rules.specs.Facts.{Fact}
use Rattle.event_why.specs.Said.{said}
use Rattle.event_why.specs.inner.Waits.{IsWaiting}
use Rattle.event_why.proofs.gap.waiting.Given as goal

abbrev pub invariant-loop-fact : goal.invariant-loop-fact
invariant-loop-fact l = (f : Fact) → Contains (map said (take l.fact-index l.facts)) f → ¬ IsWaiting l.i l.before l.to f
