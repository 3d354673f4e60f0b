use Rattle.std.proofs.Common.{length, ap}
use Rattle.translation_order.proofs.Walks.{least_at, least_at_same}
use Rattle.translation_order.proofs.cycle.least_before.Goals as goal
use Rattle.translation_order.proofs.cycle.least_before.Goals.{then-waits-first-gt0, else-waits-first-gt0}

pub loop-first-preserved : goal.loop-first-preserved
loop-first-preserved c = elim c.if-waits-first-gt0.branch [
  | then-waits-first-gt0 w ↦
      least_at (length c.args.waits.now) c.args.pairs.now c.loop-first.first-index c.args.waits.now c.loop-first.before.items c.if-waits-first-gt0.before.items w.index.result.now w.lesser.result c.requires c.loop-first-test.true w.if-waits-first-gt0.true c.loop-first.invariant w.index.ensures w.lesser.ensures (ap (λ v. v.items) w.before-is)
  | else-waits-first-gt0 w ↦
      least_at_same (length c.args.waits.now) c.args.pairs.now c.loop-first.first-index c.args.waits.now c.loop-first.before.items c.if-waits-first-gt0.before.items c.loop-first-test.true w.if-waits-first-gt0.false c.loop-first.invariant (ap (λ v. v.items) w.before-is)
]
