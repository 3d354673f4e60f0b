use Rattle.state_snapshot.proofs.Seen.{seen_all, seen_more}
use Rattle.state_snapshot.proofs.read.equations_of.Goals as goal

pub loop-event-preserved : goal.loop-event-preserved
loop-event-preserved c =
    seen_more c.args.events.now c.loop-event.event-index c.event-item.result c.loop-event.set c.push.new.self c.loop-event-test.true c.event-item.is c.in_ok-push.ensures.members c.loop-event.invariant

pub returns : goal.returns
returns c = seen_all c.args.events.now c.loop-event.event-index c.loop-event.set c.loop-event-test.false c.assert_ascending.ensures c.requires c.loop-event.invariant
