use Rattle.std.proofs.Common.{rules, ◌≡◌, ◌<◌, ◌+◌, drop, get_or, length}
use Rattle.std.proofs.lemmas.List.{drop_all}
use Rattle.tsl_value.proofs.Lists.{left_at}
use Rattle.event_why.specs.inner.Tale.{tale_of}
use Rattle.event_why.proofs.RunLemmas.{next_of, partly_end, partly_next}
use Rattle.event_why.proofs.instants.put_instant.Goals as goal

pub loop-number-preserved : goal.loop-number-preserved
loop-number-preserved c p z bound story early row up_to =
    let T = tale_of c.args.story.now p z bound in
    let order = c.args.story.now.order.now in
    let k = c.loop-number.number-index in
    let rest = drop (k + 1) order in
    let lt : k < length order = search rules in
    let at : c.new.result ≡ get_or order k c.new.result = search rules in
    let xs = left_at order k c.new.result lt at in
    let part = c.loop-number.invariant p z bound story early row up_to in
    let n = next_of T c.args.t c.new.result (drop k order) rest c.loop-number.draft xs part in
    partly_next T c.args.t c.new.result c.loop-number.draft c.put_running.new.draft n.0
    (c.in_ok-put_running.ensures p z bound n.0.done n.0.at story early row n.0.is n.0.used n.0.is_at) rest n.1

pub returns : goal.returns
returns c p z bound story early row up_to =
    let T = tale_of c.args.story.now p z bound in
    let order = c.args.story.now.order.now in
    let k = c.loop-number.number-index in
    partly_end T story c.args.t c.loop-number.draft (drop k order) (drop_all k order (search rules)) (c.loop-number.invariant p z bound story early row up_to)
