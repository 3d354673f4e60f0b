use Rattle.trace_reader.proofs.SeenLemmas.{among_more}
use Rattle.trace_reader.proofs.seen.set_of.Goals as goal

pub loop-input-preserved : goal.loop-input-preserved
loop-input-preserved c =
    among_more c.args.seen.now c.loop-input.set c.push.new.self c.loop-input.input-index c.input-item.result c.loop-input-test.true c.input-item.is c.loop-input.invariant c.in_ok-push.ensures.members
