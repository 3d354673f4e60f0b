use Rattle.std.proofs.Common.{get_or, arith}
use Rattle.flat_core.proofs.MarkLemmas.{mark_within}
use Rattle.alias_paths.specs.inner.Flows.{HasStoreAt}
use Rattle.alias_paths.proofs.Adding.{marked_none, marked_more, read_again, listed_low, none_long}
use Rattle.alias_paths.proofs.Sharers.{with_stores_all}
use Rattle.alias_paths.proofs.sharing.with_stores.Goals as goal

pub loop-number-init : goal.loop-number-init
loop-number-init c = marked_none c.listed-listed.result.now (HasStoreAt c.args.count) c.in_ok-variables.variables

pub mark_stored-requires-clause-number : goal.mark_stored-requires-clause-number
mark_stored-requires-clause-number c =
    let low = mark_within c.args.stores.now (get_or c.listed-listed.result.now c.loop-number.number-index 0) (listed_low c.args.stores.now c.listed-listed.result.now c.loop-number.number-index (get_or c.listed-listed.result.now c.loop-number.number-index 0) c.listed-listed.ensures c.loop-number-test.true (read_again c.listed-listed.result.now c.loop-number.number-index 0 c.loop-number-test.true)) in
    let size = c.requires in
    omega arith

pub mark_stored-requires-clause-one_each : goal.mark_stored-requires-clause-one_each
mark_stored-requires-clause-one_each c =
    let size = c.loop-number.invariant.one_each in
    let long = none_long c.args.count c.in_ok-variables.variables c.in_ok-variables.ensures in
    omega arith

pub loop-number-preserved : goal.loop-number-preserved
loop-number-preserved c =
    marked_more c.listed-listed.result.now (HasStoreAt c.args.count) c.loop-number.number-index (get_or c.listed-listed.result.now c.loop-number.number-index 0) c.in_ok-variables.variables c.loop-number.variables c.mark_stored.new.variables
    c.loop-number-test.true (read_again c.listed-listed.result.now c.loop-number.number-index 0 c.loop-number-test.true) c.loop-number.invariant c.in_ok-mark_stored.ensures

pub returns : goal.returns
returns c =
    with_stores_all c.args.stores.now c.listed-listed.result.now c.loop-number.number-index c.args.count c.in_ok-variables.variables c.loop-number.variables
    (omega arith) c.listed-listed.ensures c.in_ok-variables.ensures c.loop-number.invariant
