use Rattle.std.proofs.Common.{length, get_or, sym, subst, arith}
use Rattle.translation_order.specs.Order.{AreOfSteps}
use Rattle.alias_rules.specs.Uses.{last_of, IsLast}
use Rattle.alias_paths.specs.inner.Pairs.{ArePairs}
use Rattle.alias_paths.proofs.Adding.{marked_none, marked_more, read_again, none_long}
use Rattle.alias_paths.proofs.Sharers.{MarksVariable, stored_are}
use Rattle.alias_paths.proofs.Using.{uses_of_steps}
use Rattle.alias_paths.proofs.sharing.stored.Goals as goal

pub loop-variable-init : goal.loop-variable-init
loop-variable-init c = marked_none c.as_slice-lasts.result.now MarksVariable c.in_ok-stored.stored

pub mark_if-requires : goal.mark_if-requires
mark_if-requires c =
    let s = c.args.flat.now in
    let lasts = c.as_slice-lasts.result.now in
    let steps = subst (AreOfSteps (length s.equations)) (sym c.as_slice-lasts.ensures) (uses_of_steps s last_of c.args.uses.now.lasts c.requires.lasts) in
    let low = (steps c.loop-variable.variable-index (0, 0) c.loop-variable-test.true).0 in
    let size = c.loop-variable.invariant.one_each in
    let long = none_long c.count.result c.in_ok-stored.stored c.in_ok-stored.ensures in
    let count = c.count.ensures.count in
    omega arith

pub loop-variable-preserved : goal.loop-variable-preserved
loop-variable-preserved c =
    let lasts = c.as_slice-lasts.result.now in
    let k = c.loop-variable.variable-index in
    marked_more lasts MarksVariable k (get_or lasts k (0, 0)) c.in_ok-stored.stored c.loop-variable.stored c.mark_if.new.self
    c.loop-variable-test.true (read_again lasts k (0, 0) c.loop-variable-test.true) c.loop-variable.invariant c.in_ok-mark_if.ensures

pub returns : goal.returns
returns c =
    let s = c.args.flat.now in
    stored_are s c.as_slice-lasts.result.now c.loop-variable.variable-index c.count.result c.in_ok-stored.stored c.loop-variable.stored
    (omega arith) c.count.ensures.count (subst (ArePairs (IsLast s)) (sym c.as_slice-lasts.ensures) c.requires.lasts) c.in_ok-stored.ensures c.loop-variable.invariant
