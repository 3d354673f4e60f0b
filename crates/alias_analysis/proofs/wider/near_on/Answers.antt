use Rattle.std.proofs.Common.{List, ℕ, length, sym, subst, ◌∙◌}
use Rattle.translation_order.specs.Order.{AreOfSteps}
use Rattle.alias_paths.specs.inner.Marking.{AddsMarks, HasMarkedFirst}
use Rattle.alias_nears.proofs.Widening.{added_of_steps, closed_on, near_on_are, found_more}
use Rattle.alias_nears.proofs.Bypassing.{beside_are, bypassed_are}
use Rattle.alias_analysis.proofs.wider.near_on.Goals as goal

pub mark_seconds-requires-clause-pairs : goal.mark_seconds-requires-clause-pairs
mark_seconds-requires-clause-pairs c =
    let s = c.args.flat.now in
    subst (λ m. AreOfSteps m c.as_slice.result.now) (sym c.in_ok-begun.ensures.begins.one_each)
    (subst (AreOfSteps (length s.equations)) (sym c.as_slice.ensures) (added_of_steps s c.args.set.now c.args.update c.args.added.now c.args.earlier.now c.requires.earlier))

pub mark_seconds-requires-clause-one_each : goal.mark_seconds-requires-clause-one_each
mark_seconds-requires-clause-one_each c = c.requires.earlier.near.around.one_each ∙ sym c.in_ok-begun.ensures.begins.one_each

pub reached_on-requires-clause-one_each : goal.reached_on-requires-clause-one_each
reached_on-requires-clause-one_each c = c.requires.earlier.near.around.one_each

pub reached_on-requires-clause-begins : goal.reached_on-requires-clause-begins
reached_on-requires-clause-begins c = c.in_ok-mark_seconds.ensures.one_each ∙ c.in_ok-begun.ensures.begins.one_each

pub reached_on-requires-clause-closed : goal.reached_on-requires-clause-closed
reached_on-requires-clause-closed c =
    let s = c.args.flat.now in
    let n = c.args.earlier.now in
    let begins = c.in_ok-begun.begun.begins in
    let more = c.mark_seconds.new.marked in
    let goes = subst (λ (l : List (ℕ × ℕ)). AddsMarks begins (HasMarkedFirst l n.around) more) c.as_slice.ensures c.in_ok-mark_seconds.ensures in
    closed_on s c.assert_whole.ensures.is_flat c.requires.well_formed c.requires.none_is_nil c.args.set.now c.args.update c.args.added.now n c.requires.earlier
    c.args.paths.now.carriers c.requires.paths.carriers begins more c.in_ok-begun.ensures.begins goes

pub beside_on-requires-clause-found : goal.beside_on-requires-clause-found
beside_on-requires-clause-found c = c.requires.earlier.near.around.one_each

pub beside_on-requires-clause-more : goal.beside_on-requires-clause-more
beside_on-requires-clause-more c =
    let s = c.args.flat.now in
    let n = c.args.earlier.now in
    let begins = c.in_ok-begun.begun.begins in
    let more = c.mark_seconds.new.marked in
    let goes = subst (λ (l : List (ℕ × ℕ)). AddsMarks begins (HasMarkedFirst l n.around) more) c.as_slice.ensures c.in_ok-mark_seconds.ensures in
    found_more s c.assert_whole.ensures.is_flat c.requires.well_formed c.requires.none_is_nil c.args.set.now c.args.update c.args.added.now n c.requires.earlier
    c.args.paths.now.carriers c.requires.paths.carriers begins more c.in_ok-begun.ensures.begins goes c.in_ok-around.around c.in_ok-around.ensures.exact

pub beside_on-requires-clause-known : goal.beside_on-requires-clause-known
beside_on-requires-clause-known c =
    let e = c.requires.earlier in
    let n = c.args.earlier.now in
    beside_are c.args.flat.now e.smaller c.args.update n.around n.bypassed e.near.around e.near.bypassed

pub returns : goal.returns
returns c =
    let s = c.args.flat.now in
    let set = c.args.set.now in
    let y = c.args.update in
    let n = c.args.earlier.now in
    let begins = c.in_ok-begun.begun.begins in
    let more = c.mark_seconds.new.marked in
    let goes = subst (λ (l : List (ℕ × ℕ)). AddsMarks begins (HasMarkedFirst l n.around) more) c.as_slice.ensures c.in_ok-mark_seconds.ensures in
    let around =
    near_on_are s c.assert_whole.ensures.is_flat c.requires.well_formed c.requires.none_is_nil set y c.args.added.now n c.requires.earlier
    c.args.paths.now.carriers c.requires.paths.carriers begins more c.in_ok-begun.ensures.begins goes c.in_ok-around.around c.in_ok-around.ensures.one_each c.in_ok-around.ensures.exact in
    record { sharers = c.in_ok-begun.ensures.sharers; around = around; bypassed = bypassed_are s set y c.in_ok-around.around c.in_ok-bypassed.bypassed around c.in_ok-bypassed.ensures }
