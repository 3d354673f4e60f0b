use Rattle.std.proofs.Common.{[]}
use Rattle.tessla_cli.specs.inner.RunPhases.{Monitors, RunsOrigin, RunsSource, unopened, unread}
use Rattle.tsl_world.proofs.Runs.{grows_none}
use Rattle.tessla_cli.proofs.trace.run_in_pieces.Goals as goal

pub returns-in_err-buf-clause-calls : goal.returns-in_err-buf-clause-calls
returns-in_err-buf-clause-calls g c =
    grows_none g.W.World.told g.W.World.journal c.args.world.now (RunsOrigin c.args.run.now.origin (λ bytes. RunsSource (Monitors bytes c.args.run.now))) (unread [] unopened)
