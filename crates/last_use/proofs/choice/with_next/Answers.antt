use Rattle.std.proofs.Common.{◌≤◌, Option, subst, arith}
use Rattle.std.specs.Prelude.{MatchOption}
use Rattle.last_use.specs.declared.block.Block.{Block}
use Rattle.last_use.specs.inner.Blocks.{IsBlock}
use Rattle.last_use.proofs.Choosing.{block_chosen}
use Rattle.last_use.proofs.choice.with_next.Goals as goal

pub fine_updates-requires-clause-updates : goal.fine_updates-requires-clause-updates
fine_updates-requires-clause-updates c y h = ((c.requires.chosen.below.listed.each y).0 h).update

pub returns-in-Some : goal.returns-in-Some
returns-in-Some c =
    let s = c.args.flat.now in
    let from = c.args.from in
    let chosen = c.args.chosen in
    let b = c.in-Some.field-0 in
    let block : IsBlock s chosen.in_place.set from c.args.most b = subst (λ (r : Option Block). MatchOption r (Unit {0}) (IsBlock s chosen.in_place.set from c.args.most)) c.in-Some.is c.in_ok-in_place.ensures in
    let le : from ≤ b.end = let begun = block.begun in omega arith in
    record {
      begun = block.begun;
      within = block.within;
      chosen = record {
        below = block_chosen s from chosen.in_place.set chosen.reasons c.requires.chosen.below c.assert_whole.ensures.is_flat c.requires.well_formed (c.requires.several block.several) b.end le b.in_place.set block.fine.block block.fine.fine;
        nears = block.fine.nears;
      };
    }
