use Rattle.std.proofs.Common.{false, subst, sym}
use Rattle.trace_monitor.specs.declared.ending.RunEnding.TheVariants as ending
use Rattle.trace_monitor.specs.Counted.{HasCounted}
use Rattle.trace_monitor.specs.inner.Kept.{Kept}
use Rattle.trace_monitor.specs.inner.State.{State}
use Rattle.trace_monitor.proofs.Resuming.{kept_counted}
use Rattle.trace_monitor.proofs.monitor.TraceMonitor.instants.Goals as goal

pub returns-clause-counted : goal.returns-clause-counted
returns-clause-counted c = λ fed kept.
    let at : State = record { system = c.self.inside.code.now.system; options = c.self.inside.options; reader = c.self.inside.reader; last = c.self.inside.last; engine = c.self.inside.engine } in
    let before : Kept at fed = subst (λ (m : State). Kept m fed) (sym c.self.view_is) kept in
    subst (λ (m : State). HasCounted m.system m.options fed false m.engine ending.Done) c.self.view_is (kept_counted at fed (c.instants.ensures.ready before.written.stands.going) before)
