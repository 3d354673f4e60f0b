use Rattle.monitor_run.proofs.SavedLemmas.{opened_more}
use Rattle.monitor_run.proofs.saved.open_events.Goals as goal

pub loop-number-preserved : goal.loop-number-preserved
loop-number-preserved c = (
  opened_more c.args.given.now c.loop-number.number c.new.result c.loop-number.events c.push_open.new.events c.new.ensures c.loop-number.invariant.0 c.in_ok-push_open.ensures.events,
  c.in_ok-push_open.ensures.range c.loop-number.invariant.1,
)
