use Rattle.std.proofs.lemmas.Result.{IfOk-weaker}
use Rattle.tessla_cli.specs.Asked.{origin_file}
use Rattle.tessla_cli.specs.Conduct.{MakesNothing}
use Rattle.tessla_cli.specs.inner.RunPhases.{GivesOrigin, Monitors, OriginEnds, ReadsOrigin, RunEnds, RunsOrigin, RunsSource, most_from, unread}
use Rattle.tessla_cli.proofs.Phases.{file_ends, file_runs}
use Rattle.tessla_cli.proofs.Saving.{file_makes_none, name_makes_none}
use Rattle.tsl_world.proofs.Runs.{grows_on, grows_weaker}
use Rattle.tessla_cli.proofs.trace.run_trace.Goals as goal

pub returns-in_err-bytes-clause-calls : goal.returns-in_err-bytes-clause-calls
returns-in_err-bytes-clause-calls g c =
    let run = c.args.run.now in
    grows_weaker g.W.World.told g.W.World.journal c.args.world.now c.read_origin.new.world (ReadsOrigin run.origin) (RunsOrigin run.origin (λ bytes. RunsSource (Monitors bytes run))) c.read_origin.ensures.calls
    (λ p r. unread p r)

pub returns-in_err-bytes-clause-unmade : goal.returns-in_err-bytes-clause-unmade
returns-in_err-bytes-clause-unmade g c = λ e.
    let from = c.args.run.now.origin in
    grows_weaker g.W.World.told g.W.World.journal c.args.world.now c.read_origin.new.world (ReadsOrigin from) MakesNothing c.read_origin.ensures.calls
    (λ p r. name_makes_none (origin_file from).0 (most_from from) (origin_file from).1 p r)

pub returns-clause-calls : goal.returns-clause-calls
returns-clause-calls g c =
    let run = c.args.run.now in
    let bytes = c.in_ok-bytes.bytes in
    let ran = rw c.as_slice.ensures at c.run_loaded.ensures.calls in
    grows_on g.W.World.told g.W.World.journal c.args.world.now c.read_origin.new.world c.run_loaded.new.world (GivesOrigin run.origin bytes) (RunsSource (Monitors bytes run)) (RunsOrigin run.origin (λ bytes. RunsSource (Monitors bytes run)))
    c.in_ok-bytes.ensures.bytes ran
    (λ p q r t. file_runs (origin_file run.origin).0 (most_from run.origin) (origin_file run.origin).1 (λ bytes. RunsSource (Monitors bytes run)) bytes p q r t)

pub returns-clause-unmade : goal.returns-clause-unmade
returns-clause-unmade g c = λ e.
    let from = c.args.run.now.origin in
    let bytes = c.in_ok-bytes.bytes in
    grows_on g.W.World.told g.W.World.journal c.args.world.now c.read_origin.new.world c.run_loaded.new.world (GivesOrigin from bytes) MakesNothing MakesNothing c.in_ok-bytes.ensures.bytes (c.run_loaded.ensures.unmade e)
    (λ p q r t. file_makes_none (origin_file from).0 (most_from from) (origin_file from).1 bytes p q r t)

pub returns-clause-ending : goal.returns-clause-ending
returns-clause-ending g c =
    let run = c.args.run.now in
    let bytes = c.in_ok-bytes.bytes in
    let ends = rw c.as_slice.ensures at c.run_loaded.ensures.ending in
    IfOk-weaker c.run_loaded.result _ _
    (λ by ended. grows_on g.W.World.told g.W.World.journal c.args.world.now c.read_origin.new.world c.run_loaded.new.world (GivesOrigin run.origin bytes) (RunEnds bytes run by) (OriginEnds run.origin (λ bytes. RunEnds bytes run by))
    c.in_ok-bytes.ensures.bytes ended
    (λ p q r t. file_ends (origin_file run.origin).0 (most_from run.origin) (origin_file run.origin).1 (λ bytes. RunEnds bytes run by) bytes p q r t)) ends
