use Rattle.std.proofs.Common.{sym, subst, ap, ◌∙◌}
use Rattle.monitor_run.specs.inner.Stands.{Stands}
use Rattle.monitor_run.specs.inner.State.{State}
use Rattle.monitor_run.specs.inner.Steps.{CanTake}
use Rattle.monitor_run.proofs.MonitorLemmas.{ready_pushed, stands_pushed}
use Rattle.monitor_run.proofs.monitor.Monitor.event.Goals as goal
use Rattle.monitor_run.proofs.monitor.Monitor.event.Goals.{in-Ok, in-Err}

pub invariant_of-self : goal.invariant_of-self
invariant_of-self c = (
  c.self.invariant.0,
  λ going.
      let can = subst (λ (m : State). CanTake m c.args.time c.args.input c.args.value) (sym c.self.view_is) (c.requires (ap (λ (m : State). m.stop) (sym c.self.view_is) ∙ going)) in
      ready_pushed _ c.args.time c.args.input c.args.value c.push.new.self.items (c.self.invariant.1 going) can c.in-Ok.ensures.items,
  c.self.invariant.2,
  c.self.invariant.3,
  c.self.invariant.4,
)

pub returns-clause-stands : goal.returns-clause-stands
returns-clause-stands c = elim c.match-push.branch [
  | in-Ok w ↦ rw (w.result-is, w.self-is) (λ lines stands.
      let going = ap (λ (m : State). m.stop) c.self.view_is ∙ stands.going in
      let can = subst (λ (m : State). CanTake m c.args.time c.args.input c.args.value) (sym c.self.view_is) (c.requires stands.going) in
      stands_pushed _ c.args.time c.args.input c.args.value c.push.new.self.items (c.self.invariant.1 going) can w.in-Ok.ensures.items lines (subst (λ (m : State). Stands m lines) (sym c.self.view_is) stands))
  | in-Err w ↦ rw w.result-is tt
]
