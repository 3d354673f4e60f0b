use Rattle.std.proofs.Common.{refl}
use Rattle.event_why.proofs.QuietLemmas.{settle_event, settle_silent}
use Rattle.event_why.proofs.instants.settle_one.Goals as goal

pub returns-then-has_event : goal.returns-then-has_event
returns-then-has_event c T t story early kept at =
    let old = c.args.draft.now in
    settle_event T story c.args.i kept t old at c.has_event.result c.has_event.ensures c.if-has_event.true c.get-now.result c.get-now.ensures
    (record {
      steps = old.steps;
      here = old.here;
      latest = c.set.new.self;
      quiet = c.set-then-has_event.new.self;
      pending = old.pending;
      kept = old.kept;
    })
    refl refl c.set.ensures c.set-then-has_event.ensures refl

pub returns-in_ok-quiet-in-Some : goal.returns-in_ok-quiet-in-Some
returns-in_ok-quiet-in-Some c T t story early kept at =
    let mid = c.joined.new.self in
    settle_silent T story c.args.i kept t c.args.draft.now at c.has_event.result c.has_event.ensures c.if-has_event.false c.in-Some.n c.in-Some.ensures
    mid
    (record {
      steps = mid.steps;
      here = mid.here;
      latest = mid.latest;
      quiet = c.set-in-Some.new.self;
      pending = mid.pending;
      kept = mid.kept;
    })
    c.in_ok-quiet-in-Some.quiet (c.in_ok-quiet-in-Some.ensures.joins T) refl refl refl c.set-in-Some.ensures refl
