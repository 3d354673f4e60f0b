use Rattle.std.proofs.Common.{sym, subst, arith}
use Rattle.monitor_run.specs.inner.Stands.{Stands}
use Rattle.monitor_run.specs.inner.State.{State}
use Rattle.monitor_run.proofs.MonitorLemmas.{ready_closed, stands_closed}
use Rattle.monitor_run.proofs.monitor.Monitor.close.Goals as goal

pub invariant_of-self : goal.invariant_of-self
invariant_of-self c = (
  c.self.invariant.0,
  λ going.
      let ready = c.self.invariant.1 going in
      let small = ready.in_time in
      let upto = c.closed_below.ensures.in_time in
      ready_closed _ c.max-self-inside.result ready (omega (arith, c.max-self-inside.ensures)) (omega (arith, c.max-self-inside.ensures)),
  c.self.invariant.2,
  c.self.invariant.3,
  c.self.invariant.4,
)

pub returns-clause-stands : goal.returns-clause-stands
returns-clause-stands c = λ lines stands. stands_closed _ c.max-self-inside.result lines (subst (λ (m : State). Stands m lines) (sym c.self.view_is) stands)
