use Rattle.std.proofs.Common.{refl}
use Rattle.event_why.specs.declared.fact.Fact.TheVariants as fact
use Rattle.event_why.proofs.DraftLemmas.{put_still}
use Rattle.event_why.proofs.QuietLemmas.{quiet_over}
use Rattle.event_why.proofs.instants.put_quiet_over.Goals as goal

pub returns-clause-still : goal.returns-clause-still
returns-clause-still c k f at = c.in_ok-quiet.ensures.still k f (put_still c.args.draft.now c.put.new.self _ c.in_ok-silent.silent c.in_ok-silent.ensures k f at)

pub returns-clause-over : goal.returns-clause-over
returns-clause-over c T due story kept le low calm gap at =
    let mid = c.joined.new.self in
    quiet_over T story c.args.i kept due c.args.from c.args.to le calm c.args.draft.now at c.args.gap gap c.put.new.self
    (record { fact = fact.Silent c.args.i c.args.from c.args.to; by = c.in_ok-by.by }) c.in_ok-silent.silent refl c.in_ok-by.ensures c.in_ok-silent.ensures
    mid
    (record {
      steps = mid.steps;
      here = mid.here;
      latest = mid.latest;
      quiet = c.set.new.self;
      pending = mid.pending;
      kept = mid.kept;
    })
    c.in_ok-quiet.quiet (c.in_ok-quiet.ensures.joins T) refl refl refl c.set.ensures refl
