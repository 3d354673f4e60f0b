use Rattle.std.proofs.Common.{map, take}
use Rattle.event_why.specs.Said.{said}
use Rattle.event_why.specs.Check.{AreNamed}
use Rattle.event_why.proofs.check.named_facts.Given as goal

abbrev pub invariant-loop-n : goal.invariant-loop-n
invariant-loop-n l = AreNamed l.steps l.step (take l.n-index l.by) (map said l.facts.items)
