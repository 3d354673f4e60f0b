use Rattle.std.proofs.Common.{◌≡◌, None, is_some}
use Rattle.tsl_world.proofs.Runs.{grows_on, grows_weaker}
use Rattle.trace_run.specs.Effects.{CodeEnds, RunsCode}
use Rattle.tessla_cli.specs.Conduct.{MakesNothing}
use Rattle.tessla_cli.specs.inner.RunPhases.{HasRunFrom, HasSavedTo, RunsFrom, SavesTo}
use Rattle.tessla_cli.proofs.Saving.{has_run_from, runs_from, trace_makes_none}
use Rattle.tessla_cli.proofs.trace.run_from.Goals as goal

pub returns-in_err-ran-clause-unmade : goal.returns-in_err-ran-clause-unmade
returns-in_err-ran-clause-unmade g c = λ e.
    let trace = c.as_str-trace.result.now in
    grows_weaker g.W.World.told g.W.World.journal c.args.world.now c.run_code.new.world (RunsCode trace c.args.code.now c.args.start c.is_some-saves.result) MakesNothing c.run_code.ensures.calls
    (λ p r. trace_makes_none trace c.args.code.now c.args.start c.is_some-saves.result p r)

pub returns-in_err-ended-clause-unmade : goal.returns-in_err-ended-clause-unmade
returns-in_err-ended-clause-unmade g c = λ e.
    let trace = c.as_str-trace.result.now in
    grows_weaker g.W.World.told g.W.World.journal c.args.world.now c.run_code.new.world (RunsCode trace c.args.code.now c.args.start c.is_some-saves.result) MakesNothing c.run_code.ensures.calls
    (λ p r. trace_makes_none trace c.args.code.now c.args.start c.is_some-saves.result p r)

pub returns-in_err-save-clause-calls : goal.returns-in_err-save-clause-calls
returns-in_err-save-clause-calls g c =
    let run = c.args.run.now in
    let code = c.args.code.now in
    let begins = c.args.start in
    let ran = c.in_ok-ran.ran in
    let ends = rw (c.as_str-trace.ensures, c.is_some-saves.ensures) at c.in_ok-ran.ensures.ending in
    grows_on g.W.World.told g.W.World.journal c.args.world.now c.run_code.new.world c.save.new.world (CodeEnds run.trace code begins (is_some run.save) run.stats ran) (SavesTo run.save ran.state) (RunsFrom run code begins) ends c.save.ensures.calls
    (λ p q r t. runs_from run code begins ran p q r t)

pub returns-clause-calls : goal.returns-clause-calls
returns-clause-calls g c =
    let run = c.args.run.now in
    let code = c.args.code.now in
    let begins = c.args.start in
    let ran = c.in_ok-ran.ran in
    let ends = rw (c.as_str-trace.ensures, c.is_some-saves.ensures) at c.in_ok-ran.ensures.ending in
    grows_on g.W.World.told g.W.World.journal c.args.world.now c.run_code.new.world c.save.new.world (CodeEnds run.trace code begins (is_some run.save) run.stats ran) (SavesTo run.save ran.state) (RunsFrom run code begins) ends c.save.ensures.calls
    (λ p q r t. runs_from run code begins ran p q r t)

pub returns-clause-ending : goal.returns-clause-ending
returns-clause-ending g c =
    let run = c.args.run.now in
    let code = c.args.code.now in
    let begins = c.args.start in
    let ran = c.in_ok-ran.ran in
    let by = c.in_ok-ended.ended in
    let ends = rw (c.as_str-trace.ensures, c.is_some-saves.ensures) at c.in_ok-ran.ensures.ending in
    grows_on g.W.World.told g.W.World.journal c.args.world.now c.run_code.new.world c.save.new.world (CodeEnds run.trace code begins (is_some run.save) run.stats ran) (λ part. (run.save ≡ None → ran.state ≡ None) → HasSavedTo run.save ran.state part) (HasRunFrom run code begins by) ends c.in_ok-save.ensures.whole
    (λ p q r t. has_run_from run code begins ran by c.in_ok-ended.ensures.ending c.in_ok-ended.ensures.text p q r t)
