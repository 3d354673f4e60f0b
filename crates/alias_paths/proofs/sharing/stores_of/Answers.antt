use Rattle.std.proofs.Common.{get_or, arith}
use Rattle.flat_core.proofs.MarkLemmas.{mark_within}
use Rattle.alias_paths.proofs.Adding.{marked_none, marked_more, read_again, listed_low, none_long}
use Rattle.alias_paths.proofs.Sharers.{MarksStore, stores_all}
use Rattle.alias_paths.proofs.sharing.stores_of.Goals as goal

pub loop-number-init : goal.loop-number-init
loop-number-init c = marked_none c.listed-listed.result.now (MarksStore c.count-count.result) c.in_ok-stores.stores

pub overflow_add-count-in-loop-number : goal.overflow_add-count-in-loop-number
overflow_add-count-in-loop-number c =
    let low = mark_within c.args.variables.now (get_or c.listed-listed.result.now c.loop-number.number-index 0) (listed_low c.args.variables.now c.listed-listed.result.now c.loop-number.number-index (get_or c.listed-listed.result.now c.loop-number.number-index 0) c.listed-listed.ensures c.loop-number-test.true (read_again c.listed-listed.result.now c.loop-number.number-index 0 c.loop-number-test.true)) in
    let few = c.requires in
    let count = c.count-count.ensures in
    omega arith

pub mark_if-requires : goal.mark_if-requires
mark_if-requires c =
    let low = mark_within c.args.variables.now (get_or c.listed-listed.result.now c.loop-number.number-index 0) (listed_low c.args.variables.now c.listed-listed.result.now c.loop-number.number-index (get_or c.listed-listed.result.now c.loop-number.number-index 0) c.listed-listed.ensures c.loop-number-test.true (read_again c.listed-listed.result.now c.loop-number.number-index 0 c.loop-number-test.true)) in
    let size = c.loop-number.invariant.one_each in
    let long = none_long _ c.in_ok-stores.stores c.in_ok-stores.ensures in
    let count = c.count-count.ensures in
    omega arith

pub loop-number-preserved : goal.loop-number-preserved
loop-number-preserved c =
    marked_more c.listed-listed.result.now (MarksStore c.count-count.result) c.loop-number.number-index (get_or c.listed-listed.result.now c.loop-number.number-index 0) c.in_ok-stores.stores c.loop-number.stores c.mark_if.new.self
    c.loop-number-test.true (read_again c.listed-listed.result.now c.loop-number.number-index 0 c.loop-number-test.true) c.loop-number.invariant c.in_ok-mark_if.ensures

pub returns : goal.returns
returns c =
    stores_all c.args.variables.now c.listed-listed.result.now c.loop-number.number-index c.count-count.result c.in_ok-stores.stores c.loop-number.stores
    (omega arith) c.listed-listed.ensures c.count-count.ensures c.in_ok-stores.ensures c.loop-number.invariant
