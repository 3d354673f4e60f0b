use Rattle.tsl_value.proofs.Quotes.{grown}
use Rattle.tsl_value.proofs.literal.read_content.Goals as goal

pub loop-byte-preserved : goal.loop-byte-preserved
loop-byte-preserved c =
    grown c.args.bytes.now c.loop-byte.rest.now c.in-Some.others.now c.loop-byte.content c.push.new.self c.in-Some.byte c.loop-byte.invariant c.in-Some.ensures.more c.in_ok-push.ensures.ok
