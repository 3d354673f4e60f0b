use Rattle.std.proofs.Common.{arith}
use Rattle.last_use.proofs.Rising.{rise_next, all_rise}
use Rattle.last_use.proofs.cycles.rise.Goals as goal

pub loop-first-preserved : goal.loop-first-preserved
loop-first-preserved c = rise_next c.args.pairs.now c.args.places.now c.loop-first.first-index c.loop-first.invariant (c.falls.ensures c.if-falls.false)

pub returns : goal.returns
returns c h = all_rise c.args.pairs.now c.args.places.now c.loop-first.first-index (omega arith) c.loop-first.invariant
