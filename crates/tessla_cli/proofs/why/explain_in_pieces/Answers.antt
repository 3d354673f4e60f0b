use Rattle.std.proofs.Common.{[]}
use Rattle.tessla_cli.specs.inner.RunPhases.{Explains, RunsSource, RunsSpec, unopened, unread}
use Rattle.tsl_world.proofs.Runs.{grows_none}
use Rattle.tessla_cli.proofs.why.explain_in_pieces.Goals as goal

pub returns-in_err-buf-clause-calls : goal.returns-in_err-buf-clause-calls
returns-in_err-buf-clause-calls g c =
    grows_none g.W.World.told g.W.World.journal c.args.world.now (RunsSpec c.args.why.now.spec (λ source. RunsSource (Explains source c.args.why.now))) (unread [] unopened)
