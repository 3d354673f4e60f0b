use Rattle.std.proofs.Common.{◌≡◌, ℕ, List, Option, ◌+◌, sym, subst}
use Rattle.std.specs.Prelude.{IsTrue}
use Rattle.flat_core.specs.Members.{is_in}
use Rattle.alias_rules.proofs.Below.{listed_low}
use Rattle.alias_rules.specs.Fine.{IsFine}
use Rattle.alias_rules.specs.Uses.{AreUpdates}
use Rattle.alias_nears.specs.declared.reason.Reason.{Reason}
use Rattle.last_use.specs.inner.Choosing.{IsChosenBelow, IsRefusal}
use Rattle.last_use.specs.Reasons.{IsReason}
use Rattle.last_use.proofs.Choosing.{tried_updates, tried_wider, accepted, refused}
use Rattle.last_use.proofs.choice.with_update.Goals as goal

pub tried_set-requires : goal.tried_set-requires
tried_set-requires c = listed_low c.args.flat.now c.args.update c.args.chosen.in_place.set c.requires.chosen.below.listed

pub nears_of-requires-clause-updates : goal.nears_of-requires-clause-updates
nears_of-requires-clause-updates c =
    let s = c.args.flat.now in
    let chosen = c.args.chosen in
    subst (AreUpdates s) (sym c.in_ok-set.ensures) (tried_updates s c.args.update chosen.in_place.set chosen.reasons c.requires.chosen.below c.requires.update)

pub nears_of-requires-clause-wider : goal.nears_of-requires-clause-wider
nears_of-requires-clause-wider c =
    let s = c.args.flat.now in
    let chosen = c.args.chosen in
    tried_wider s c.args.update chosen.in_place.set chosen.reasons c.requires.chosen.below c.in_ok-set.set c.in_ok-set.ensures

pub refusal-requires-clause-updates : goal.refusal-requires-clause-updates
refusal-requires-clause-updates c =
    let s = c.args.flat.now in
    let chosen = c.args.chosen in
    subst (AreUpdates s) (sym c.in_ok-set.ensures) (tried_updates s c.args.update chosen.in_place.set chosen.reasons c.requires.chosen.below c.requires.update)

pub returns-in-None : goal.returns-in-None
returns-in-None c =
    let s = c.args.flat.now in
    let n = c.args.update in
    let chosen = c.args.chosen in
    let fine : IsFine s c.in_ok-set.set = subst (λ (r : Option Reason). IsRefusal s c.in_ok-set.set r) c.in-None.is c.in_ok-refusal.ensures in
    record {
      below =
          subst (λ (set : List ℕ). IsChosenBelow s (n + 1) set chosen.reasons) (sym c.in_ok-set.ensures)
          (accepted s n chosen.in_place.set chosen.reasons c.requires.chosen.below c.requires.update (subst (IsFine s) c.in_ok-set.ensures fine));
      nears = c.in_ok-nears.ensures;
    }

pub returns-in_ok-push-in-Some : goal.returns-in_ok-push-in-Some
returns-in_ok-push-in-Some c =
    let s = c.args.flat.now in
    let n = c.args.update in
    let chosen = c.args.chosen in
    let r = c.in-Some.reason in
    let reason : IsReason s c.in_ok-set.set r = subst (λ (found : Option Reason). IsRefusal s c.in_ok-set.set found) c.in-Some.is c.in_ok-refusal.ensures in
    record {
      below =
          subst (IsChosenBelow s (n + 1) chosen.in_place.set) (sym c.in_ok-push-in-Some.ensures)
          (refused s n chosen.in_place.set chosen.reasons c.requires.chosen.below c.requires.update r (subst (λ (set : List ℕ). IsReason s set r) c.in_ok-set.ensures reason));
      nears = c.requires.chosen.nears;
    }
