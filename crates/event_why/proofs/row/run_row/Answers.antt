use Rattle.std.proofs.Common.{rules, ◌≡◌, ◌<◌, ◌+◌, drop, get_or, length, subst, sym}
use Rattle.std.proofs.lemmas.List.{drop_all}
use Rattle.tsl_value.proofs.Lists.{left_at}
use Rattle.event_why.specs.inner.Here.{IsPartOfRow}
use Rattle.event_why.proofs.RowLemmas.{IsFromStreams, IsPartly, from_part, next_of, partly_end, partly_next, takes_values}
use Rattle.event_why.proofs.TaleLemmas.{running_there}
use Rattle.event_why.proofs.row.run_row.Goals as goal

pub running_outcome-requires-clause-takes : goal.running_outcome-requires-clause-takes
running_outcome-requires-clause-takes c e run is =
    let T = c.requires.told.0 in
    let can = c.requires.told.1 in
    let partly = c.loop-number.invariant T can in
    takes_values T c.args.flat.now c.args.lines.now c.args.t c.args.draft.now c.deref.result.now can
    (subst (IsFromStreams T c.args.t) (sym c.deref.ensures.value) (from_part T c.args.t partly.done c.loop-number.row.items partly.part))
    c.new-i.result e run is

pub loop-number-preserved : goal.loop-number-preserved
loop-number-preserved c T can =
    let order = c.args.order.now in
    let k = c.loop-number.number-index in
    let x = c.new-i.result in
    let rest = drop (k + 1) order in
    let row = c.loop-number.row.items in
    let lt : k < length order = search rules in
    let at : c.new-i.result ≡ get_or order k c.new-i.result = search rules in
    let n = next_of T c.args.t x (drop k order) rest row (left_at order k x lt at) (c.loop-number.invariant T can) in
    let out = c.in_ok-outcome.ensures T n.done n.at can (subst (IsPartOfRow T c.args.t n.done) (sym c.deref.ensures.value) n.part) n.is n.used in
    subst (IsPartly T c.args.t rest) (sym c.set.ensures) (partly_next T c.args.t x rest row n c.in_ok-outcome.outcome out)

pub returns : goal.returns
returns c T can =
    let order = c.args.order.now in
    let k = c.loop-number.number-index in
    partly_end T c.args.t (drop k order) c.loop-number.row.items (drop_all k order (search rules)) (running_there T can.story) (c.loop-number.invariant T can)
