use Rattle.std.proofs.Common.{subst}
use Rattle.std.proofs.lemmas.Result.{IfOk-weaker}
use Rattle.tsl_world.proofs.Runs.{grows_weaker}
use Rattle.tessla_cli.specs.inner.RunPhases.{EndsSince, IsLoadedAs, IsLoadedCode, RunEnds, has_run}
use Rattle.tessla_cli.proofs.trace.run_loaded.Goals as goal

pub returns-in-Runs-clause-ending : goal.returns-in-Runs-clause-ending
returns-in-Runs-clause-ending g c =
    let run = c.args.run.now in
    let bytes = c.args.bytes.now in
    let code = c.in-Runs.code in
    let is : IsLoadedCode run.origin bytes code = subst (IsLoadedAs run.origin bytes) c.in-Runs.is c.in_ok-code.ensures in
    IfOk-weaker c.run_program.result _ _
    (λ by ends. grows_weaker g.W.World.told g.W.World.journal c.args.world.now c.run_program.new.world (EndsSince run.resume run code by) (RunEnds bytes run by) ends
    (λ p r. has_run (record { code = code; loaded_so = is; ends = r }))) c.run_program.ensures.ending
