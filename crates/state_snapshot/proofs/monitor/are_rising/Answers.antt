use Rattle.std.proofs.Common.{sym, ◌∙◌}
use Rattle.state_snapshot.specs.inner.Reading.{is_event_below, rise_by}
use Rattle.state_snapshot.proofs.Loop.{rise_on}
use Rattle.state_snapshot.proofs.monitor.are_rising.Goals as goal

pub loop-event-preserved : goal.loop-event-preserved
loop-event-preserved c =
    rise_on is_event_below c.loop-event.last.now c.in-Some.others.now c.loop-event.event-index (rise_by is_event_below c.args.events.now) c.loop-event.invariant
    c.event-item.result c.loop-event-test.true c.event-item.is (sym c.is_below.ensures ∙ c.if-not-is_below.false)
