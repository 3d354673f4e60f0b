use Rattle.std.proofs.Common.{refl, sym, subst}
use Rattle.std.proofs.lemmas.Result.{IfOk-weaker}
use Rattle.command_words.specs.declared.command.Command.{Command}
use Rattle.tsl_world.specs.Runs.{Grows}
use Rattle.tessla_cli.specs.inner.RunPhases.{Does, DoesAll}
use Rattle.tessla_cli.proofs.Shown.{nothing_made}
use Rattle.tsl_world.proofs.Runs.{grows_weaker}
use Rattle.tessla_cli.specs.Conduct.{MakesNothing}
use Rattle.command_words.specs.declared.command.Command.TheVariants as command
use Rattle.tessla_cli.proofs.run.perform.Goals as goal

pub returns-in-Write-clause-calls : goal.returns-in-Write-clause-calls
returns-in-Write-clause-calls g c =
    let calls = rw c.as_str.ensures at c.write_in_pieces.ensures.calls in
    subst (λ (asked : Command). Grows g.W.World.told g.W.World.journal c.args.world.now c.write_in_pieces.new.world (Does asked)) (sym c.in-Write.is) calls

pub returns-in-Write-clause-ending : goal.returns-in-Write-clause-ending
returns-in-Write-clause-ending g c =
    let all = rw c.as_str.ensures at c.write_in_pieces.ensures.ending in
    IfOk-weaker c.write_in_pieces.result _ _
    (λ ended ends. subst (λ (asked : Command). Grows g.W.World.told g.W.World.journal c.args.world.now c.write_in_pieces.new.world (DoesAll asked ended)) (sym c.in-Write.is) ends) all

pub returns-in-Generate-clause-unmade : goal.returns-in-Generate-clause-unmade
returns-in-Generate-clause-unmade g c = λ e.
    let asked = command.Generate c.in-Generate.lines in
    grows_weaker g.W.World.told g.W.World.journal c.args.world.now c.generate.new.world (Does asked) MakesNothing c.generate.ensures.calls (λ p. nothing_made asked p refl)

pub returns-in-Bench-clause-unmade : goal.returns-in-Bench-clause-unmade
returns-in-Bench-clause-unmade g c = λ e.
    let asked = command.Bench c.in-Bench.kind c.in-Bench.lines in
    grows_weaker g.W.World.told g.W.World.journal c.args.world.now c.tell_bench.new.world (Does asked) MakesNothing c.tell_bench.ensures.calls (λ p. nothing_made asked p refl)

pub returns-in-Why-clause-unmade : goal.returns-in-Why-clause-unmade
returns-in-Why-clause-unmade g c = λ e.
    let asked = command.Why c.in-Why.why in
    grows_weaker g.W.World.told g.W.World.journal c.args.world.now c.explain_in_pieces.new.world (Does asked) MakesNothing c.explain_in_pieces.ensures.calls (λ p. nothing_made asked p refl)
