use Rattle.std.proofs.Common.{take}
use Rattle.translation_order.specs.inner.Taking.{AreSeconds}
use Rattle.translation_order.proofs.taking.seconds.Given as goal

abbrev pub invariant-loop-first : goal.invariant-loop-first
invariant-loop-first l = AreSeconds l.steps (take l.first-index l.pairs) l.seconds.items
