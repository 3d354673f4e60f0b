use Rattle.std.proofs.Common.{◌∙◌, ap, subst, Err}
use Rattle.std.proofs.lemmas.Result.{err_from_is_err_and}
use Rattle.flat_core.specs.System.{System}
use Rattle.monitor_run.specs.declared.monitor.Stop.{Stop}
use Rattle.monitor_run.specs.inner.AnyMonitor.{NamesRunning}
use Rattle.trace_monitor.proofs.RunOut.{run_after, stopped_after}
use Rattle.trace_monitor.proofs.Taking.{if_is_err}
use Rattle.trace_monitor.proofs.Waiting.{more_in_step}
use Rattle.trace_monitor.proofs.monitor.run_all.Goals as goal

pub returns-in_err-by-clause-stops : goal.returns-in_err-by-clause-stops
returns-in_err-by-clause-stops c =
    let p = err_from_is_err_and c.from_residual.result c.from_residual.ensures.1 in
    if_is_err c.from_residual.result c.in_err-by.field-0.0 _ (p.1 ∙ ap (λ (stop : Stop). Err stop) p.2) (λ some x lines text read. c.in_err-by.ensures.stops some x lines text c.args.until read)

pub run_to_halt-requires-clause-going : goal.run_to_halt-requires-clause-going
run_to_halt-requires-clause-going c = c.in_ok-by.ensures.in_step.can_save.going

pub run_to_halt-requires-clause-last : goal.run_to_halt-requires-clause-last
run_to_halt-requires-clause-last c = c.in_ok-by.ensures.in_step.bound_is

pub returns-in_err-run_to_halt-clause-stops : goal.returns-in_err-run_to_halt-clause-stops
returns-in_err-run_to_halt-clause-stops c =
    let p = err_from_is_err_and c.from_residual-in_err-run_to_halt.result c.from_residual-in_err-run_to_halt.ensures.1 in
    if_is_err c.from_residual-in_err-run_to_halt.result c.in_err-run_to_halt.field-0.0 _ (p.1 ∙ ap (λ (stop : Stop). Err stop) p.2) (λ some x lines text read.
    let all = c.in_ok-by.ensures.read x lines text read in
    stopped_after c.take_lines.new.reader c.args.engine.now c.take_lines.new.engine c.run_to_halt.new.engine c.take_lines.new.last c.args.until x lines text c.args.out.now c.take_lines.new.out c.run_to_halt.new.out c.in_ok-by.by all
    c.in_err-run_to_halt.field-0.0 some (c.in_err-run_to_halt.ensures.stops _ _ all.on.read.has.written))

pub returns-clause-run : goal.returns-clause-run
returns-clause-run c = λ x lines text read.
    let all = c.in_ok-by.ensures.read x lines text read in
    run_after c.take_lines.new.reader c.args.engine.now c.take_lines.new.engine c.run_to_halt.new.engine c.take_lines.new.last c.args.until x lines text c.args.out.now c.take_lines.new.out c.run_to_halt.new.out c.in_ok-by.by all
    (c.in_ok-run_to_halt.ensures.runs _ _ all.on.read.has.written)

pub returns-clause-in_step : goal.returns-clause-in_step
returns-clause-in_step c = λ is. more_in_step c.take_lines.new.reader c.take_lines.new.engine c.run_to_halt.new.engine c.take_lines.new.last c.args.until c.in_ok-by.by is c.in_ok-by.ensures.in_step c.in_ok-run_to_halt.ensures.any

pub returns-clause-limit : goal.returns-clause-limit
returns-clause-limit c = c.in_ok-run_to_halt.ensures.any.as_set.limit ∙ c.in_ok-by.ensures.limit

pub returns-in_err-run_to_halt-clause-named : goal.returns-in_err-run_to_halt-clause-named
returns-in_err-run_to_halt-clause-named c =
    let p = err_from_is_err_and c.from_residual-in_err-run_to_halt.result c.from_residual-in_err-run_to_halt.ensures.1 in
    if_is_err c.from_residual-in_err-run_to_halt.result c.in_err-run_to_halt.field-0.0 _ (p.1 ∙ ap (λ (stop : Stop). Err stop) p.2)
    (subst (λ (s : System). NamesRunning s c.in_err-run_to_halt.field-0.0) c.take_lines.ensures.system c.in_err-run_to_halt.ensures.named)

pub returns-in_err-by-clause-named : goal.returns-in_err-by-clause-named
returns-in_err-by-clause-named c =
    let p = err_from_is_err_and c.from_residual.result c.from_residual.ensures.1 in
    if_is_err c.from_residual.result c.in_err-by.field-0.0 _ (p.1 ∙ ap (λ (stop : Stop). Err stop) p.2) c.in_err-by.ensures.named
