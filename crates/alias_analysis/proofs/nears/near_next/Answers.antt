use Rattle.std.proofs.Common.{◌≡◌, ◌<◌, ℕ, length, get_or, sym, subst, ◌∙◌}
use Rattle.std.specs.Prelude.{IfOk}
use Rattle.alias_nears.specs.inner.Nears.{AreNear}
use Rattle.alias_nears.proofs.Conflicts.{update_low, is_inside}
use Rattle.alias_nears.proofs.Nearing.{near_at}
use Rattle.alias_analysis.proofs.nears.near_next.Goals as goal

pub near_on-requires-clause-earlier : goal.near_on-requires-clause-earlier
near_on-requires-clause-earlier c =
    let s = c.args.flat.now in
    let smaller = c.args.smaller.now in
    let place = c.args.place in
    let y = c.update_at-update.result in
    let lt : place < length smaller = c.is_at.ensures.there c.if-is_at.true in
    let is : y ≡ get_or smaller place 0 = c.is_at.ensures.is c.if-is_at.true in
    record {
      smaller = smaller;
      wider = c.requires.wider;
      inside = is_inside smaller place y lt is;
      are_added = c.requires.added;
      near = near_at s smaller c.args.earlier.now place y c.index-earlier-place.result c.requires.earlier lt is c.index-earlier-place.is;
    }

pub near_on-requires-clause-update : goal.near_on-requires-clause-update
near_on-requires-clause-update c = update_low c.args.flat.now c.args.set.now c.args.place c.update_at-update.result c.requires.updates c.requires.there c.update_at-update.ensures

pub near_update-requires-clause-update : goal.near_update-requires-clause-update
near_update-requires-clause-update c = update_low c.args.flat.now c.args.set.now c.args.place c.update_at-update.result c.requires.updates c.requires.there c.update_at-update.ensures

pub returns-then-is_at : goal.returns-then-is_at
returns-then-is_at c = subst (λ (y : ℕ). IfOk c.near_on.result (AreNear c.args.flat.now c.args.set.now y)) c.update_at-update.ensures c.near_on.ensures

pub returns-else-is_at : goal.returns-else-is_at
returns-else-is_at c = subst (λ (y : ℕ). IfOk c.near_update.result (AreNear c.args.flat.now c.args.set.now y)) c.update_at-update.ensures c.near_update.ensures
