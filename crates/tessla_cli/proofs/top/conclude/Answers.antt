use Rattle.std.proofs.Common.{◌≡◌, ap, Err}
use Rattle.tsl_world.specs.declared.broken.Broken.{Broken}
use Rattle.tsl_world.specs.declared.broken.Broken.TheVariants.{Memory}
use Rattle.tessla_cli.specs.Conduct.{MakesNothing}
use Rattle.tsl_world.proofs.Runs.{grows_on, grows_run}
use Rattle.tessla_cli.specs.Failures.{failures}
use Rattle.tessla_cli.specs.Outcome.{Concludes, TellsBroken, TellsEnding}
use Rattle.command_words.specs.Words.{command_of}
use Rattle.tessla_cli.specs.inner.RunPhases.{DoesAllAsked, DoesAsked}
use Rattle.tessla_cli.proofs.Shown.{shows_asked}
use Rattle.tessla_cli.proofs.Unseen.{no_update_is_seen}
use Rattle.trace_run.proofs.Grown.{grows_both}
use Rattle.tessla_cli.proofs.Told.{asked_before, asked_stands, concludes_broken, concludes_ending, calm_broken, failed_broken, grows_unmade}
use Rattle.tessla_cli.proofs.top.conclude.Goals as goal

pub returns-in-Ok-clause-calls : goal.returns-in-Ok-clause-calls
returns-in-Ok-clause-calls g c =
    let asked = command_of c.args.words.now in
    let unseen = no_update_is_seen c.args.words.now in
    let by = c.in-Ok.ended in
    let before = failures g.W.World.faults g.W.World.unheard c.args.world.now in
    let mid = failures g.W.World.faults g.W.World.unheard c.run.new.world in
    let now = failures g.W.World.faults g.W.World.unheard c.tell_ending.new.world in
    let status = c.tell_ending.result in
    let both = grows_both g.W.World.told g.W.World.journal c.args.world.now c.run.new.world (DoesAsked asked) (DoesAllAsked asked by) c.run.ensures.calls c.in-Ok.ensures.ending in
    grows_on g.W.World.told g.W.World.journal c.args.world.now c.run.new.world c.tell_ending.new.world (λ p. DoesAsked asked p × DoesAllAsked asked by p) (TellsEnding by mid now status) (Concludes asked before now status) both
    (grows_run g.W.World.told g.W.World.journal g.W.World.standing c.run.new.world c.tell_ending.new.world (TellsEnding by mid now status) c.tell_ending.ensures.calls)
    (λ p q r t. concludes_ending asked unseen before mid now status p q (shows_asked asked p r.0) by (record { all = c.in-Ok.ensures.ok; to_err = c.run.ensures.heard }) (asked_stands asked by p r.1) (asked_before asked by p r.1) t)

pub returns-in-Err-clause-calls : goal.returns-in-Err-clause-calls
returns-in-Err-clause-calls g c =
    let asked = command_of c.args.words.now in
    let unseen = no_update_is_seen c.args.words.now in
    let by = c.in-Err.broken in
    let before = failures g.W.World.faults g.W.World.unheard c.args.world.now in
    let mid = failures g.W.World.faults g.W.World.unheard c.run.new.world in
    let now = failures g.W.World.faults g.W.World.unheard c.tell_broken.new.world in
    let status = c.tell_broken.result in
    let unmade = grows_unmade g.W.World.told g.W.World.journal by c.args.world.now c.run.new.world (DoesAsked asked) c.run.ensures.calls (λ e. c.in-Err.ensures.unmade (ap (λ (b : Broken). Err b) e)) in
    grows_on g.W.World.told g.W.World.journal c.args.world.now c.run.new.world c.tell_broken.new.world (λ p. DoesAsked asked p × (by ≡ Memory → MakesNothing p)) (TellsBroken by mid now status) (Concludes asked before now status) unmade
    (grows_run g.W.World.told g.W.World.journal g.W.World.standing c.run.new.world c.tell_broken.new.world (TellsBroken by mid now status) c.tell_broken.ensures.calls)
    (λ p q r t. concludes_broken asked unseen by before mid now status p q (λ e. record { all = c.in-Err.ensures.outside (ap (λ (b : Broken). Err b) e); to_err = c.run.ensures.heard }) (λ e. record { all = c.in-Err.ensures.memory (ap (λ (b : Broken). Err b) e); to_err = c.run.ensures.heard }) r.1 (shows_asked asked p r.0) t)

pub returns-in-Err-clause-calm : goal.returns-in-Err-clause-calm
returns-in-Err-clause-calm g c =
    calm_broken c.in-Err.broken (g.W.World.faults c.args.world.now) (g.W.World.faults c.run.new.world) (g.W.World.faults c.tell_broken.new.world) (λ e. c.in-Err.ensures.memory (ap (λ (b : Broken). Err b) e)) c.tell_broken.result c.tell_broken.ensures.failed c.tell_broken.ensures.calm

pub returns-in-Err-clause-outside : goal.returns-in-Err-clause-outside
returns-in-Err-clause-outside g c = λ five.
    failed_broken c.in-Err.broken (failures g.W.World.faults g.W.World.unheard c.args.world.now) (failures g.W.World.faults g.W.World.unheard c.run.new.world) (failures g.W.World.faults g.W.World.unheard c.tell_broken.new.world)
    (λ e. record { all = c.in-Err.ensures.outside (ap (λ (b : Broken). Err b) e); to_err = c.run.ensures.heard })
    (λ e. record { all = c.in-Err.ensures.memory (ap (λ (b : Broken). Err b) e); to_err = c.run.ensures.heard })
    (c.tell_broken.ensures.outside five)
