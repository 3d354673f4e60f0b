use Rattle.std.proofs.Common.{refl, ◌∙◌, ap, sym, subst, rules, arith, Ok, Option, Result}
use Rattle.std.proofs.lemmas.Result.{err_from_is_err_and}
use Rattle.trace_monitor.specs.declared.ending.RunEnding.{RunEnding}
use Rattle.trace_monitor.specs.declared.options.Options.{Options}
use Rattle.tsl_world.proofs.Runs.{none}
use Rattle.tsl_world.specs.Runs.{Runs}
use Rattle.tsl_world.specs.declared.broken.Broken.{Broken}
use Rattle.trace_run.specs.inner.Round.{GoesTo, Turns}
use Rattle.trace_run.proofs.Following.{Goes, alike_on, at_first}
use Rattle.trace_run.proofs.Rounds.{breaks_once, ends_once, goes_once, left_by}
use Rattle.trace_run.proofs.watch.watch.Goals as goal

pub loop-init : goal.loop-init
loop-init g c =
    let m = c.args.monitor.now in record {
      room = c.requires.room;
      short = c.requires.short;
      faults = refl;
      unheard = refl;
      alike = record { system = refl; options = refl; engine = refl; set = refl; order = refl };
      waits = c.requires.waits;
      taken = omega arith;
      calls = none g.W.World.told g.W.World.journal g.W.World.standing c.args.world.now (Goes m m) (at_first m);
    }

pub returns-in_err-next-clause-calls : goal.returns-in_err-next-clause-calls
returns-in_err-next-clause-calls g c =
    let (error, failed, same) = err_from_is_err_and c.from_residual.result c.from_residual.ensures.1 in
    let first = c.args.monitor.now in
    let new = c.round.new.monitor in
    subst (λ (r : Result RunEnding Broken). Runs g.W.World.told g.W.World.journal g.W.World.standing c.args.world.now c.round.new.world (GoesTo first new c.args.tells_end r)) (sym failed)
    (breaks_once g.W.World.told g.W.World.journal g.W.World.standing c.args.world.now c.loop.world c.round.new.world first c.loop.monitor c.loop.invariant.alike c.loop.invariant.waits c.args.tells_end c.loop.invariant.calls new c.requires.ready error
    c.in_err-next.ensures.calls)

pub returns-in-Some-clause-left : goal.returns-in-Some-clause-left
returns-in-Some-clause-left g c =
    left_by c.args.monitor.now c.loop.monitor c.round.new.monitor c.args.tells_end c.in_ok-next.next c.in-Some.ending c.loop.invariant.alike c.in_ok-next.ensures.turned c.in-Some.is

pub returns-in-Some-clause-calls : goal.returns-in-Some-clause-calls
returns-in-Some-clause-calls g c =
    let new = c.round.new.monitor in
    ends_once g.W.World.told g.W.World.journal g.W.World.standing c.args.world.now c.loop.world c.round.new.world c.args.monitor.now c.loop.monitor c.loop.invariant.alike c.loop.invariant.waits c.args.tells_end c.loop.invariant.calls new c.in-Some.ending
    (subst (λ (n : Option RunEnding). Runs g.W.World.told g.W.World.journal g.W.World.standing c.loop.world c.round.new.world (Turns c.loop.monitor new c.args.tells_end (Ok n))) c.in-Some.is c.in_ok-next.ensures.calls)

pub loop-preserved : goal.loop-preserved
loop-preserved g c =
    let new = c.round.new.monitor in
    let turned = c.in_ok-next.ensures.turned in
    let again = turned.goes_on c.in_default.is in
    let before = c.loop.invariant.taken in
    let more = again.more in record {
      room = search rules;
      short = search rules;
      faults = c.in_ok-next.ensures.ok ∙ c.loop.invariant.faults;
      unheard = c.round.ensures.heard ∙ c.loop.invariant.unheard;
      alike = alike_on c.args.monitor.now c.loop.monitor new c.loop.invariant.alike turned.alike;
      waits = again.waits;
      taken = omega arith;
      calls = goes_once g.W.World.told g.W.World.journal g.W.World.standing c.args.world.now c.loop.world c.round.new.world c.args.monitor.now c.loop.monitor c.loop.invariant.alike c.loop.invariant.waits c.args.tells_end c.loop.invariant.calls new
          (subst (λ (n : Option RunEnding). Runs g.W.World.told g.W.World.journal g.W.World.standing c.loop.world c.round.new.world (Turns c.loop.monitor new c.args.tells_end (Ok n))) c.in_default.is c.in_ok-next.ensures.calls);
    }

pub unreachable-requires : goal.unreachable-requires
unreachable-requires g c =
    let waits = c.loop.invariant.waits in
    let within = waits.within in
    let limit = waits.bytes_limit in
    let asked = c.requires.limit in
    let rounds = c.loop.invariant.taken in
    let same = ap (λ (o : Options). o.bytes) c.loop.invariant.alike.options in
    let past = c.loop-test.false in
    absurd (omega arith)
