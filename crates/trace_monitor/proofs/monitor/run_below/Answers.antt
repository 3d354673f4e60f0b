use Rattle.std.proofs.Common.{◌≡◌, ◌∙◌, ap, subst}
use Rattle.std.proofs.Math.Nat.{max-eq_right}
use Rattle.flat_core.specs.System.{System}
use Rattle.monitor_run.specs.declared.monitor.Stop.{Stop}
use Rattle.monitor_run.specs.inner.AnyMonitor.{NamesRunning}
use Rattle.monitor_run.specs.inner.State as engine
use Rattle.trace_monitor.specs.inner.Run.{closed_to}
use Rattle.trace_monitor.specs.inner.Waits.{HasRunOutAny}
use Rattle.trace_monitor.proofs.Taking.{on_ok, if_err, runs_below, stops_below}
use Rattle.trace_monitor.proofs.monitor.run_below.Goals as goal

pub returns-clause-runs : goal.returns-clause-runs
returns-clause-runs c =
    on_ok c.run.result _ _ (runs_below c.args.engine.now c.close.new.self c.run.new.engine c.args.time c.requires.later c.in_ok-close.ensures.closed c.args.out.now c.run.new.out) c.run.ensures.runs

pub returns-clause-stops : goal.returns-clause-stops
returns-clause-stops c =
    if_err c.run.result _ _ (stops_below c.args.engine.now c.close.new.self c.run.new.engine c.args.time c.requires.later c.in_ok-close.ensures.closed c.args.out.now c.run.new.out) c.run.ensures.stops

pub returns-clause-any : goal.returns-clause-any
returns-clause-any c =
    let same : c.close.new.self ≡ closed_to c.args.engine.now c.args.time = c.in_ok-close.ensures.closed ∙ ap (closed_to c.args.engine.now) (max-eq_right c.requires.later) in
    on_ok c.run.result _ _ (subst (λ (e : engine.State). HasRunOutAny e c.run.new.engine) same) c.run.ensures.any

pub returns-clause-named : goal.returns-clause-named
returns-clause-named c =
    let same = ap (λ (e : engine.State). e.system) c.in_ok-close.ensures.closed in
    if_err c.run.result _ _ (λ (why : Stop). subst (λ (s : System). NamesRunning s why) same) c.run.ensures.named

pub run-requires : goal.run-requires
run-requires c = ap (λ (e : engine.State). e.stop) c.in_ok-close.ensures.closed ∙ c.requires.going
