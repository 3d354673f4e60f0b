use Rattle.std.proofs.Common.{◌≡◌, ◌∙◌, refl, Ok, Err, Result, subst, rules}
use Rattle.monitor_run.specs.declared.monitor.Step.{Step}
use Rattle.monitor_run.specs.declared.monitor.Step.TheVariants as step
use Rattle.monitor_run.specs.declared.monitor.Stop.{Stop}
use Rattle.monitor_run.specs.inner.AnyMonitor.{HasSteppedAny, NamesRunning}
use Rattle.monitor_run.specs.inner.Steps.{HasStepped}
use Rattle.flat_core.specs.System.{System}
use Rattle.trace_monitor.proofs.Going.{not_begun, ran_on, ran_out, stopped_so}
use Rattle.trace_monitor.proofs.Waiting.{begun_any, less_left_any, out_any, ran_any}
use Rattle.trace_monitor.proofs.monitor.run.Goals as goal

pub loop-stop-smaller : goal.loop-stop-smaller
loop-stop-smaller c =
    let going = c.loop-stop.invariant.4.going in
    let is : c.step.result ≡ Ok step.Ran = search rules in
    let ran = subst (λ (r : Result Step Stop). HasSteppedAny c.loop-stop.engine c.step.new.self c.loop-stop.out c.step.new.out r) is (c.step.ensures.any going) in
    less_left_any c.loop-stop.engine c.step.new.self (c.instants.ensures.ready going) ran

pub loop-stop-preserved : goal.loop-stop-preserved
loop-stop-preserved c = (
  λ lines text written.
      let on = c.loop-stop.invariant.0 lines text written in
      let going = on.written.stands.going in
      let is : c.step.result ≡ Ok step.Ran = search rules in
      let ran = subst (λ (r : Result Step Stop). HasStepped c.loop-stop.engine c.step.new.self lines c.loop-stop.out c.step.new.out r) is (c.step.ensures.steps going lines on.written.stands) in
      ran_on c.args.engine.now c.loop-stop.engine c.step.new.self lines text c.args.out.now c.loop-stop.out c.step.new.out (c.instants.ensures.ready going) on ran,
  c.step.ensures.as_set.system ∙ c.loop-stop.invariant.1,
  c.step.ensures.as_set.in_place ∙ c.loop-stop.invariant.2,
  c.step.ensures.as_set.order ∙ c.loop-stop.invariant.3,
  let going = c.loop-stop.invariant.4.going in
      let is : c.step.result ≡ Ok step.Ran = search rules in
      let ran = subst (λ (r : Result Step Stop). HasSteppedAny c.loop-stop.engine c.step.new.self c.loop-stop.out c.step.new.out r) is (c.step.ensures.any going) in
      ran_any c.args.engine.now c.loop-stop.engine c.step.new.self c.loop-stop.invariant.4 ran (search rules),
)

pub returns-in-Ok-Idle-clause-runs : goal.returns-in-Ok-Idle-clause-runs
returns-in-Ok-Idle-clause-runs c = λ lines text written.
    let on = c.loop-stop.invariant.0 lines text written in
    let going = on.written.stands.going in
    let is : c.step.result ≡ Ok step.Idle = search rules in
    let idle = subst (λ (r : Result Step Stop). HasStepped c.loop-stop.engine c.step.new.self lines c.loop-stop.out c.step.new.out r) is (c.step.ensures.steps going lines on.written.stands) in
    ran_out c.args.engine.now c.loop-stop.engine c.step.new.self lines text c.args.out.now c.loop-stop.out c.step.new.out (c.instants.ensures.ready going) on idle (c.step.ensures.idle is)

pub returns-in-Err-clause-stops : goal.returns-in-Err-clause-stops
returns-in-Err-clause-stops c = λ lines text written.
    let on = c.loop-stop.invariant.0 lines text written in
    let going = on.written.stands.going in
    let is : c.step.result ≡ Err c.in-Err.stop = search rules in
    let stopped = subst (λ (r : Result Step Stop). HasStepped c.loop-stop.engine c.step.new.self lines c.loop-stop.out c.step.new.out r) is (c.step.ensures.steps going lines on.written.stands) in
    stopped_so c.args.engine.now c.loop-stop.engine c.step.new.self lines text c.args.out.now c.loop-stop.out c.step.new.out (c.instants.ensures.ready going) on c.in-Err.stop c.step.ensures.as_set stopped

pub loop-stop-init : goal.loop-stop-init
loop-stop-init c = (λ lines text written. not_begun c.args.engine.now lines text c.args.out.now written, refl, refl, refl, begun_any c.args.engine.now c.requires)

pub returns-in-Ok-Idle-clause-any : goal.returns-in-Ok-Idle-clause-any
returns-in-Ok-Idle-clause-any c =
    let going = c.loop-stop.invariant.4.going in
    let is : c.step.result ≡ Ok step.Idle = search rules in
    let idle = subst (λ (r : Result Step Stop). HasSteppedAny c.loop-stop.engine c.step.new.self c.loop-stop.out c.step.new.out r) is (c.step.ensures.any going) in
    out_any c.args.engine.now c.loop-stop.engine c.step.new.self c.loop-stop.invariant.4 idle.0 idle.2

pub returns-in-Err-clause-named : goal.returns-in-Err-clause-named
returns-in-Err-clause-named c =
    let going = c.loop-stop.invariant.4.going in
    let is : c.step.result ≡ Err c.in-Err.stop = search rules in
    let stopped = subst (λ (r : Result Step Stop). HasSteppedAny c.loop-stop.engine c.step.new.self c.loop-stop.out c.step.new.out r) is (c.step.ensures.any going) in
    subst (λ (s : System). NamesRunning s c.in-Err.stop) c.loop-stop.invariant.1 stopped.1
