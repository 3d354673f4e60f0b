use Rattle.std.proofs.Common.{◌≡◌, ◌<◌, List, ℕ, length, arith}
use Rattle.alias_nears.proofs.Conflicts.{update_low}
use Rattle.alias_nears.proofs.Constraining.{asked_next, constraints_are, constraints_of_steps}
use Rattle.alias_analysis.proofs.constraints.constraints.Goals as goal

below : (set : List ℕ) (k end : ℕ) → end ≡ length set → k < end → k < length set
below set k end is lt = omega arith

pub push_update-requires-clause-update : goal.push_update-requires-clause-update
push_update-requires-clause-update c =
    let set = c.args.set.now in
    let lt = below set c.loop-place.place c.len-place-end.result c.len-place-end.ensures.count c.loop-place-test.true in
    update_low c.args.flat.now set c.loop-place.place c.update_at-update.result c.requires.updates lt c.update_at-update.ensures

pub loop-place-preserved : goal.loop-place-preserved
loop-place-preserved c =
    asked_next c.args.flat.now c.args.set.now c.loop-place.place c.update_at-update.result c.push_prints.new.pairs c.loop-place.pairs c.push_update.new.pairs c.update_at-update.ensures c.loop-place.invariant c.in_ok-push_update.ensures

pub returns-clause-exact : goal.returns-clause-exact
returns-clause-exact c =
    constraints_are c.args.flat.now c.args.set.now c.loop-place.place (let count = c.len-place-end.ensures.count in omega arith) c.new-pairs.result c.push_needed.new.pairs c.push_prints.new.pairs c.loop-place.pairs c.new-pairs.ensures c.in_ok-push_needed.ensures c.in_ok-push_prints.ensures c.loop-place.invariant

pub returns-clause-of_steps : goal.returns-clause-of_steps
returns-clause-of_steps c =
    constraints_of_steps c.args.flat.now c.args.set.now c.assert_whole.ensures.is_flat c.requires.updates c.loop-place.pairs
    (constraints_are c.args.flat.now c.args.set.now c.loop-place.place (let count = c.len-place-end.ensures.count in omega arith) c.new-pairs.result c.push_needed.new.pairs c.push_prints.new.pairs c.loop-place.pairs c.new-pairs.ensures c.in_ok-push_needed.ensures c.in_ok-push_prints.ensures c.loop-place.invariant)
