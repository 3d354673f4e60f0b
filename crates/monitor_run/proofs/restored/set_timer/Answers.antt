use Rattle.std.proofs.Common.{ap}
use Rattle.delay_timers.specs.inner.Pending.{Pending}
use Rattle.monitor_run.proofs.Placed.{time_gone, time_set}
use Rattle.monitor_run.proofs.restored.set_timer.Goals as goal

pub returns-in-Some-clause-times : goal.returns-in-Some-clause-times
returns-in-Some-clause-times c = λ d.
    time_set c.args.timers.now.times c.set.new.self.times c.args.delay c.get.result c.in-Some.time d c.args.time (ap (λ (p : Pending). p.times) c.set.ensures) c.get.ensures c.in-Some.is

pub returns-in-None-clause-times : goal.returns-in-None-clause-times
returns-in-None-clause-times c = λ d.
    time_gone c.args.timers.now.times c.cancel.new.self.times c.args.delay c.get-in-None.result d c.args.time (ap (λ (p : Pending). p.times) c.cancel.ensures) c.get-in-None.ensures c.in-None.is
