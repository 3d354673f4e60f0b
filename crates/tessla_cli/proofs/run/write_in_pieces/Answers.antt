use Rattle.std.proofs.Common.{[]}
use Rattle.tessla_cli.specs.inner.RunPhases.{Prints, RunsSource, RunsSpec, unopened, unread}
use Rattle.tsl_world.proofs.Runs.{grows_none}
use Rattle.tessla_cli.proofs.run.write_in_pieces.Goals as goal

pub returns-in_err-buf-clause-calls : goal.returns-in_err-buf-clause-calls
returns-in_err-buf-clause-calls g c =
    grows_none g.W.World.told g.W.World.journal c.args.world.now (RunsSpec c.args.spec.now (λ source. RunsSource (Prints source c.args.form.now))) (unread [] unopened)
