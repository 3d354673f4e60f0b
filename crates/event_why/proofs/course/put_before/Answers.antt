use Rattle.event_why.specs.inner.Tale.{tale_of}
use Rattle.event_why.proofs.DraftLemmas.{ok_then}
use Rattle.event_why.proofs.CourseLemmas.{past_gap, past_none, pruned_up_to}
use Rattle.event_why.proofs.course.put_before.Goals as goal

pub returns-in-Some : goal.returns-in-Some
returns-in-Some c =
    ok_then c.put_gap.result c.put_gap.ensures
    (λ _ gap p z bound story early late first calm up_to.
    let T = tale_of c.args.story.now p z bound in
    let mid = c.prune_if_large.new.draft in
    let times = c.in-Some.times in
    let between = c.in-Some.ensures in
    past_gap T c.args.t early c.args.next first times.0 times.1 between.0 between.1 between.2 calm mid c.put_gap.new.draft
    (pruned_up_to T c.args.next c.args.draft.now mid c.in_ok-prune_if_large.ensures up_to) (gap p z bound story))

pub returns-in-None : goal.returns-in-None
returns-in-None c p z bound story early late first calm up_to =
    let T = tale_of c.args.story.now p z bound in
    let mid = c.prune_if_large.new.draft in
    past_none T c.args.t c.args.next c.in-None.ensures late mid
    (pruned_up_to T c.args.next c.args.draft.now mid c.in_ok-prune_if_large.ensures up_to)
