use Rattle.std.proofs.Common.{◌≡◌, ◌∙◌, sym, subst, refl, Option, Some}
use Rattle.command_words.specs.declared.command.Command.{Command}
use Rattle.command_words.specs.Words.{command_of}
use Rattle.tsl_world.proofs.Runs.{grows_none}
use Rattle.tsl_world.specs.Runs.{Grows}
use Rattle.tessla_cli.specs.inner.RunPhases.{DoesAllAsked, DoesAsked}
use Rattle.tessla_cli.proofs.Shown.{does_none}
use Rattle.tessla_cli.proofs.run.run.Goals as goal

pub returns-in_err-command-clause-calls : goal.returns-in_err-command-clause-calls
returns-in_err-command-clause-calls g c =
    grows_none g.W.World.told g.W.World.journal c.args.world.now (DoesAsked (command_of c.args.words.now)) (does_none (command_of c.args.words.now))
