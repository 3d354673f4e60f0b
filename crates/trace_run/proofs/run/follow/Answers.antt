use Rattle.std.proofs.Common.{not, ◌∙◌, ap, sym, subst, arith, List, Result}
use Rattle.std.proofs.lemmas.Result.{err_from_is_err_and}
use Rattle.compiled_meaning.specs.inner.Ready.{IsReady}
use Rattle.register_code.specs.Code.{Code}
use Rattle.trace_monitor.specs.declared.options.Options.{Options}
use Rattle.tsl_world.proofs.Runs.{grows_called, grows_run}
use Rattle.tsl_world.specs.Runs.{Grows}
use Rattle.tsl_world.specs.declared.broken.Broken.{Broken}
use Rattle.tsl_world.specs.declared.outside.Did.{Did}
use Rattle.tsl_world.specs.declared.outside.Did.TheVariants.{NotOpened, Opened}
use Rattle.tsl_world.specs.declared.outside.Slot.TheVariants.{Trace}
use Rattle.trace_run.specs.Effects.{CodeEnds, RunsCode, no_trace}
use Rattle.trace_run.specs.declared.run.Ran.{Ran}
use Rattle.trace_run.specs.inner.Round.{HasEnded, HasGone}
use Rattle.trace_run.specs.inner.Told.{ComesTo}
use Rattle.trace_run.proofs.Coming.{code_after, ends_on, engine_after, runs_on}
use Rattle.trace_run.proofs.Grown.{grows_following}
use Rattle.trace_run.proofs.run.follow.Goals as goal

pub returns-in_err-open-clause-calls : goal.returns-in_err-open-clause-calls
returns-in_err-open-clause-calls g c start made =
    let (error, failed, same) = err_from_is_err_and c.from_residual.result c.from_residual.ensures.1 in
    let trace = c.args.trace.now in
    let code = c.args.code.now in
    let saves = c.args.saves in
    subst (λ (r : Result Ran Broken). Grows g.W.World.told g.W.World.journal c.args.world.now c.open.new.self (ComesTo trace code start saves c.args.with_statistics r)) (sym failed)
    (grows_called g.W.World.told g.W.World.journal c.args.world.now c.open.new.self (NotOpened Trace trace) (RunsCode trace code start saves) c.open.ensures.told c.in_err-open.ensures.journal no_trace)

pub returns-in_err-ending-clause-calls : goal.returns-in_err-ending-clause-calls
returns-in_err-ending-clause-calls g c start made =
    let (error, failed, same) = err_from_is_err_and c.from_residual-in_err-ending.result c.from_residual-in_err-ending.ensures.1 in
    let trace = c.args.trace.now in
    let code = c.args.code.now in
    let saves = c.args.saves in
    let m = c.args.monitor.now in
    subst (λ (r : Result Ran Broken). Grows g.W.World.told g.W.World.journal c.args.world.now c.watch.new.world (ComesTo trace code start saves c.args.with_statistics r)) (sym failed)
    (grows_following g.W.World.told g.W.World.journal c.args.world.now c.open.new.self c.watch.new.world (Opened Trace trace) (HasGone m (not saves)) (RunsCode trace code start saves) c.open.ensures.told c.in_ok-open.ensures.journal
    (grows_run g.W.World.told g.W.World.journal g.W.World.standing c.open.new.self c.watch.new.world (HasGone m (not saves)) c.in_err-ending.ensures.calls) (λ q gone. runs_on code start m made trace saves q gone))

pub returns-in_err-ran-clause-calls : goal.returns-in_err-ran-clause-calls
returns-in_err-ran-clause-calls g c start made =
    let (error, failed, same) = err_from_is_err_and c.from_residual-in_err-ran.result c.from_residual-in_err-ran.ensures.1 in
    let trace = c.args.trace.now in
    let code = c.args.code.now in
    let saves = c.args.saves in
    let m = c.args.monitor.now in
    let Q : List Did → Type 0 = HasEnded m c.watch.new.monitor (not saves) c.in_ok-ending.ending in
    subst (λ (r : Result Ran Broken). Grows g.W.World.told g.W.World.journal c.args.world.now c.watch.new.world (ComesTo trace code start saves c.args.with_statistics r)) (sym failed)
    (grows_following g.W.World.told g.W.World.journal c.args.world.now c.open.new.self c.watch.new.world (Opened Trace trace) Q (RunsCode trace code start saves) c.open.ensures.told c.in_ok-open.ensures.journal
    (grows_run g.W.World.told g.W.World.journal g.W.World.standing c.open.new.self c.watch.new.world Q c.in_ok-ending.ensures.calls) (λ q ended. runs_on code start m made trace saves q ended.gone))

pub returns-clause-calls : goal.returns-clause-calls
returns-clause-calls g c start made =
    let trace = c.args.trace.now in
    let code = c.args.code.now in
    let saves = c.args.saves in
    let m = c.args.monitor.now in
    let new = c.watch.new.monitor in
    let how = c.in_ok-ending.ending in
    grows_following g.W.World.told g.W.World.journal c.args.world.now c.open.new.self c.watch.new.world (Opened Trace trace) (HasEnded m new (not saves) how) (CodeEnds trace code start saves c.args.with_statistics c.in_ok-ran.ran)
    c.open.ensures.told c.in_ok-open.ensures.journal (grows_run g.W.World.told g.W.World.journal g.W.World.standing c.open.new.self c.watch.new.world (HasEnded m new (not saves) how) c.in_ok-ending.ensures.calls)
    (λ q ended. ends_on code start m made trace saves q new c.args.with_statistics how c.in_ok-ran.ran c.in_ok-ending.ensures.left.alike c.in_ok-ran.ensures ended)

pub returns-clause-standing : goal.returns-clause-standing
returns-clause-standing g c = c.watch.ensures.calls.stands ∙ c.in_ok-open.ensures.standing

pub watch-requires-clause-ready : goal.watch-requires-clause-ready
watch-requires-clause-ready g c = subst IsReady (sym (ap (λ (d : Code). d.system) c.requires.begun.1.code)) c.requires.ready

pub watch-requires-clause-waits : goal.watch-requires-clause-waits
watch-requires-clause-waits g c = c.requires.begun.1.waits

pub watch-requires-clause-limit : goal.watch-requires-clause-limit
watch-requires-clause-limit g c = c.requires.limit

pub watch-requires-clause-few : goal.watch-requires-clause-few
watch-requires-clause-few g c =
    let few = c.requires.begun.1.few_bytes in
    let limit = c.requires.limit in
    omega arith

pub ran_of-requires-clause-waits : goal.ran_of-requires-clause-waits
ran_of-requires-clause-waits g c = λ saves done. c.in_ok-ending.ensures.left.waits (ap not saves) done

pub ran_of-requires-clause-few : goal.ran_of-requires-clause-few
ran_of-requires-clause-few g c =
    let few = c.requires.begun.1.few_instants in
    let same = ap (λ (o : Options). o.instants) c.in_ok-ending.ensures.left.alike.options in
    omega arith

pub ran_of-requires-clause-code : goal.ran_of-requires-clause-code
ran_of-requires-clause-code g c = code_after c.args.code.now c.requires.begun.0 c.args.monitor.now c.requires.begun.1 c.watch.new.monitor c.in_ok-ending.ensures.left.alike

pub ran_of-requires-clause-engine : goal.ran_of-requires-clause-engine
ran_of-requires-clause-engine g c = engine_after c.args.code.now c.requires.begun.0 c.args.monitor.now c.requires.begun.1 c.watch.new.monitor c.in_ok-ending.ensures.left.alike
