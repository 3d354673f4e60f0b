use Rattle.std.proofs.Common.{◌<◌, length, sym, subst}
use Rattle.trigger_starts.proofs.Marking.{marks_next}
use Rattle.trigger_starts.proofs.needed.mark.Goals as goal

pub loop-arg-preserved : goal.loop-arg-preserved
loop-arg-preserved c =
    let low : c.arg-item.result < length c.args.marks.now = rw c.arg-item.is (c.requires c.loop-arg.arg-index c.arg-item.result c.loop-arg-test.true) in
    marks_next c.args.args.now c.loop-arg.arg-index c.arg-item.result c.get.result c.args.marks.now c.loop-arg.marks c.loop-arg-test.true c.arg-item.is c.get.ensures (subst (λ n. c.arg-item.result < n) (sym c.loop-arg.auto.marks) low) c.loop-arg.invariant
