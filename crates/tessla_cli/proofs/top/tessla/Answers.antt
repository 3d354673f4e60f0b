use Rattle.command_words.specs.Words.{command_of}
use Rattle.tsl_world.proofs.Runs.{grows_weaker}
use Rattle.tsl_world.specs.Seen.{seen}
use Rattle.tessla_cli.specs.Completeness.{IsComplete}
use Rattle.tessla_cli.specs.Failures.{failures}
use Rattle.tessla_cli.specs.Outcome.{Concludes, EndsWith, IsExact, TellsFailure}
use Rattle.tessla_cli.proofs.Completeness.{complete, not_five}
use Rattle.tessla_cli.proofs.Exact.{exact}
use Rattle.tessla_cli.proofs.Told.{ends_with, tells_failure}
use Rattle.tessla_cli.proofs.top.tessla.Goals as goal

pub returns-clause-ended : goal.returns-clause-ended
returns-clause-ended g c = λ not_outside not_memory.
    let asked = command_of c.args.words.now in
    let before = failures g.W.World.faults g.W.World.unheard c.args.world.now in
    let now = failures g.W.World.faults g.W.World.unheard c.conclude.new.world in
    grows_weaker g.W.World.told g.W.World.journal c.args.world.now c.conclude.new.world (Concludes asked before now c.conclude.result) (EndsWith asked c.conclude.result) c.conclude.ensures.calls
    (λ p. ends_with asked before now c.conclude.result p not_outside not_memory)

pub returns-clause-failed_told : goal.returns-clause-failed_told
returns-clause-failed_told g c = λ five.
    let asked = command_of c.args.words.now in
    let before = failures g.W.World.faults g.W.World.unheard c.args.world.now in
    let now = failures g.W.World.faults g.W.World.unheard c.conclude.new.world in
    grows_weaker g.W.World.told g.W.World.journal c.args.world.now c.conclude.new.world (Concludes asked before now c.conclude.result) (TellsFailure asked before now) c.conclude.ensures.calls
    (λ p. tells_failure asked before now c.conclude.result p five)

pub returns-clause-exact : goal.returns-clause-exact
returns-clause-exact g c =
    let asked = command_of c.args.words.now in
    let before = failures g.W.World.faults g.W.World.unheard c.args.world.now in
    let now = failures g.W.World.faults g.W.World.unheard c.conclude.new.world in
    grows_weaker g.W.World.told g.W.World.journal c.args.world.now c.conclude.new.world (Concludes asked before now c.conclude.result) (λ p. IsExact asked c.conclude.result (seen p)) c.conclude.ensures.calls
    (λ p. exact asked p before now c.conclude.result)

pub returns-clause-complete : goal.returns-clause-complete
returns-clause-complete g c = λ same low.
    let asked = command_of c.args.words.now in
    let before = failures g.W.World.faults g.W.World.unheard c.args.world.now in
    let now = failures g.W.World.faults g.W.World.unheard c.conclude.new.world in
    grows_weaker g.W.World.told g.W.World.journal c.args.world.now c.conclude.new.world (Concludes asked before now c.conclude.result) (λ p. IsComplete asked c.conclude.result (seen p)) c.conclude.ensures.calls
    (λ p. complete asked p before now c.conclude.result (not_five before now c.conclude.result c.conclude.ensures.outside same low))
