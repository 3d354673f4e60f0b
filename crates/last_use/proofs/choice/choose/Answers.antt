use Rattle.alias_rules.proofs.Empty.{empty_is_fine}
use Rattle.alias_rules.proofs.Listed.{listed_fits}
use Rattle.alias_rules.proofs.TakenPlan.{taken_is_fine}
use Rattle.last_use.proofs.Choosing.{chosen_listed, chosen_reasons}
use Rattle.last_use.proofs.choice.choose.Goals as goal

pub order_of-requires-clause-updates : goal.order_of-requires-clause-updates
order_of-requires-clause-updates c y h = ((c.in_ok-in_place.ensures.below.listed.each y).0 h).update

pub order_of-requires-clause-nears : goal.order_of-requires-clause-nears
order_of-requires-clause-nears c = c.in_ok-in_place.ensures.nears

pub order_of-requires-clause-fine : goal.order_of-requires-clause-fine
order_of-requires-clause-fine c =
    let s = c.args.flat.now in
    let flat = c.assert_whole.ensures.is_flat in
    let chosen = c.in_ok-in_place.field-0 in
    (listed_fits s chosen.in_place.set (empty_is_fine s flat.proper flat.outputs_run c.requires.well_formed)
    (chosen_listed s chosen.in_place.set chosen.reasons c.in_ok-in_place.ensures.below)).fine

pub returns-clause-taken : goal.returns-clause-taken
returns-clause-taken c =
    let chosen = c.in_ok-in_place.field-0 in
    record { listed = chosen_listed c.args.flat.now chosen.in_place.set chosen.reasons c.in_ok-in_place.ensures.below; ordered = c.in_ok-order.ensures }

pub returns-clause-fine : goal.returns-clause-fine
returns-clause-fine c =
    let s = c.args.flat.now in
    let flat = c.assert_whole.ensures.is_flat in
    let chosen = c.in_ok-in_place.field-0 in
    taken_is_fine s chosen.in_place.set c.in_ok-order.order flat.proper flat.outputs_run c.requires.well_formed
    (record { listed = chosen_listed s chosen.in_place.set chosen.reasons c.in_ok-in_place.ensures.below; ordered = c.in_ok-order.ensures })

pub returns-clause-reasons : goal.returns-clause-reasons
returns-clause-reasons c =
    let chosen = c.in_ok-in_place.field-0 in
    chosen_reasons c.args.flat.now chosen.in_place.set chosen.reasons c.in_ok-in_place.ensures.below
