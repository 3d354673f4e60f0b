use Rattle.std.proofs.Common.{◌≡◌, ℕ, ◌<◌, List, length, arith}
use Rattle.alias_nears.proofs.Conflicts.{update_low}
use Rattle.alias_nears.proofs.Nearing.{near_more}
use Rattle.alias_analysis.proofs.nears.near_each.Goals as goal

below : (set : List ℕ) (k end : ℕ) → end ≡ length set → k < end → k < length set
below set k end is lt = omega arith

pub near_update-requires-clause-update : goal.near_update-requires-clause-update
near_update-requires-clause-update c =
    let set = c.args.set.now in
    let lt = below set c.loop-place.place c.len-place-end.result c.len-place-end.ensures.count c.loop-place-test.true in
    update_low c.args.flat.now set c.loop-place.place c.update_at-update.result c.requires.updates lt c.update_at-update.ensures

pub loop-place-preserved : goal.loop-place-preserved
loop-place-preserved c =
    near_more c.args.flat.now c.args.set.now c.loop-place.nears.items c.push.new.self.items c.loop-place.place c.update_at-update.result c.in_ok-next.next c.update_at-update.ensures c.in_ok-push.ensures.items c.in_ok-next.ensures c.loop-place.invariant
