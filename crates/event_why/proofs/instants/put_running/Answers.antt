use Rattle.std.proofs.Common.{rules, ◌≡◌, true, ap, refl, ◌∙◌}
use Rattle.flat_core.specs.Stream.{event}
use Rattle.flat_core.specs.System.{runs}
use Rattle.event_why.specs.inner.Tale.{tale_of}
use Rattle.event_why.proofs.RunLemmas.{can_tell, run_put}
use Rattle.event_why.proofs.instants.put_running.Goals as goal

pub returns : goal.returns
returns c p z bound done e story early row is used at =
    let T = tale_of c.args.story.now p z bound in
    let run : runs c.args.story.now.flat.now c.args.i ≡ true = search rules in
    let old = c.args.draft.now in
    let mid = c.put_one.new.draft in
    let can = can_tell T story c.args.t c.args.i early run e c.equation.result.now is c.equation.ensures done used old at in
    run_put T story c.args.t c.args.i done old mid
    (record {
      steps = mid.steps;
      here = c.set.new.self;
      latest = mid.latest;
      quiet = mid.quiet;
      pending = mid.pending;
      kept = mid.kept;
    })
    c.in_ok-number.number run (c.in_ok-number.ensures T can (c.in_ok-value.ensures ∙ c.event_in.ensures ∙ ap event (row.here c.args.i run))) at refl c.set.ensures refl refl refl
