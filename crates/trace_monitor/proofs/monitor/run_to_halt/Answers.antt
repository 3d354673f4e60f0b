use Rattle.std.proofs.Common.{◌≡◌, ◌∙◌, ap, subst}
use Rattle.monitor_run.specs.declared.monitor.Stop.{Stop}
use Rattle.monitor_run.specs.inner.AnyMonitor.{NamesRunning}
use Rattle.monitor_run.specs.inner.State as engine
use Rattle.trace_monitor.specs.inner.Waits.{HasRunOutAny}
use Rattle.trace_monitor.specs.inner.Reading.{bound_at}
use Rattle.trace_monitor.specs.inner.Run.{closed_to}
use Rattle.trace_monitor.proofs.Taking.{on_ok, if_err, closed_both, closed_none, runs_closed, stops_closed}
use Rattle.trace_monitor.proofs.monitor.run_to_halt.Goals.{in-End+in_ok-close+in_ok-close-2, in_default}
use Rattle.trace_monitor.proofs.monitor.run_to_halt.Goals as goal

pub returns-clause-runs : goal.returns-clause-runs
returns-clause-runs c =
    let m = c.args.engine.now in
    let same : c.match-by.engine ≡ closed_to m (bound_at c.args.by.now c.args.last c.args.until) = elim c.match-by.branch [
      | in-End+in_ok-close+in_ok-close-2 w ↦ closed_both m c.args.last c.args.until c.requires.last c.args.by.now w.in-End.is w.close.new.self c.match-by.engine w.in_ok-close.ensures.closed (w.engine-is ∙ w.in_ok-close-2.ensures.closed)
      | in_default w ↦ w.engine-is ∙ closed_none m c.args.last c.args.until c.requires.last c.args.by.now w.in_default.not-End
    ] in
    on_ok c.run.result _ _ (runs_closed m c.match-by.engine c.run.new.engine (bound_at c.args.by.now c.args.last c.args.until) same c.args.out.now c.run.new.out) c.run.ensures.runs

pub returns-clause-stops : goal.returns-clause-stops
returns-clause-stops c =
    let m = c.args.engine.now in
    let same : c.match-by.engine ≡ closed_to m (bound_at c.args.by.now c.args.last c.args.until) = elim c.match-by.branch [
      | in-End+in_ok-close+in_ok-close-2 w ↦ closed_both m c.args.last c.args.until c.requires.last c.args.by.now w.in-End.is w.close.new.self c.match-by.engine w.in_ok-close.ensures.closed (w.engine-is ∙ w.in_ok-close-2.ensures.closed)
      | in_default w ↦ w.engine-is ∙ closed_none m c.args.last c.args.until c.requires.last c.args.by.now w.in_default.not-End
    ] in
    if_err c.run.result _ _ (stops_closed m c.match-by.engine c.run.new.engine (bound_at c.args.by.now c.args.last c.args.until) same c.args.out.now c.run.new.out) c.run.ensures.stops

pub returns-clause-any : goal.returns-clause-any
returns-clause-any c =
    let m = c.args.engine.now in
    let same : c.match-by.engine ≡ closed_to m (bound_at c.args.by.now c.args.last c.args.until) = elim c.match-by.branch [
      | in-End+in_ok-close+in_ok-close-2 w ↦ closed_both m c.args.last c.args.until c.requires.last c.args.by.now w.in-End.is w.close.new.self c.match-by.engine w.in_ok-close.ensures.closed (w.engine-is ∙ w.in_ok-close-2.ensures.closed)
      | in_default w ↦ w.engine-is ∙ closed_none m c.args.last c.args.until c.requires.last c.args.by.now w.in_default.not-End
    ] in
    on_ok c.run.result _ _ (subst (λ (e : engine.State). HasRunOutAny e c.run.new.engine) same) c.run.ensures.any

pub returns-clause-named : goal.returns-clause-named
returns-clause-named c =
    let m = c.args.engine.now in
    let same : c.match-by.engine ≡ closed_to m (bound_at c.args.by.now c.args.last c.args.until) = elim c.match-by.branch [
      | in-End+in_ok-close+in_ok-close-2 w ↦ closed_both m c.args.last c.args.until c.requires.last c.args.by.now w.in-End.is w.close.new.self c.match-by.engine w.in_ok-close.ensures.closed (w.engine-is ∙ w.in_ok-close-2.ensures.closed)
      | in_default w ↦ w.engine-is ∙ closed_none m c.args.last c.args.until c.requires.last c.args.by.now w.in_default.not-End
    ] in
    if_err c.run.result _ _ (λ (why : Stop). subst (λ (e : engine.State). NamesRunning e.system why) same) c.run.ensures.named

pub run-requires : goal.run-requires
run-requires c =
    let m = c.args.engine.now in
    let same : c.match-by.engine ≡ closed_to m (bound_at c.args.by.now c.args.last c.args.until) = elim c.match-by.branch [
      | in-End+in_ok-close+in_ok-close-2 w ↦ closed_both m c.args.last c.args.until c.requires.last c.args.by.now w.in-End.is w.close.new.self c.match-by.engine w.in_ok-close.ensures.closed (w.engine-is ∙ w.in_ok-close-2.ensures.closed)
      | in_default w ↦ w.engine-is ∙ closed_none m c.args.last c.args.until c.requires.last c.args.by.now w.in_default.not-End
    ] in
    ap (λ (e : engine.State). e.stop) same ∙ c.requires.going
