use Rattle.std.proofs.Common.{◌+◌, sym, subst, ◌∙◌, arith}
use Rattle.std.proofs.lemmas.List.{get_or_default}
use Rattle.flat_core.specs.inner.Dependency.{IsRunOrder}
use Rattle.flat_simplify.proofs.Making.{AreStanding, standing_none, step_there, known_before, standing_more, standing_all}
use Rattle.flat_simplify.proofs.simplify.replacements.Goals as goal

pub loop-step-init : goal.loop-step-init
loop-step-init c =
    let s = c.args.flat.now in
    let ordered = subst (IsRunOrder s) (sym c.as_slice-step-items.ensures) c.requires.ordered in
    standing_none s c.as_slice-step-items.result.now ordered c.in_ok-replaced.replaced (c.in_ok-replaced.ensures ∙ c.count.ensures.count)

pub stand_in-requires-clause-there : goal.stand_in-requires-clause-there
stand_in-requires-clause-there c =
    let s = c.args.flat.now in
    let items = c.as_slice-step-items.result.now in
    let ordered = subst (IsRunOrder s) (sym c.as_slice-step-items.ensures) c.requires.ordered in
    let at = c.new-id.ensures ∙ get_or_default items c.loop-step.step-index 0 c.new-id.result c.loop-step-test.true in
    step_there s items ordered c.loop-step.replaced c.loop-step.step-index c.new-id.result c.loop-step-test.true at

pub stand_in-requires-clause-known : goal.stand_in-requires-clause-known
stand_in-requires-clause-known c =
    let s = c.args.flat.now in
    let items = c.as_slice-step-items.result.now in
    let ordered = subst (IsRunOrder s) (sym c.as_slice-step-items.ensures) c.requires.ordered in
    let at = c.new-id.ensures ∙ get_or_default items c.loop-step.step-index 0 c.new-id.result c.loop-step-test.true in
    known_before s items ordered c.loop-step.replaced c.loop-step.step-index c.new-id.result c.loop-step-test.true at c.loop-step.invariant

pub set-requires : goal.set-requires
set-requires c =
    let s = c.args.flat.now in
    let items = c.as_slice-step-items.result.now in
    let ordered = subst (IsRunOrder s) (sym c.as_slice-step-items.ensures) c.requires.ordered in
    let at = c.new-id.ensures ∙ get_or_default items c.loop-step.step-index 0 c.new-id.result c.loop-step-test.true in
    let low = step_there s items ordered c.loop-step.replaced c.loop-step.step-index c.new-id.result c.loop-step-test.true at in
    let count = c.loop-step.invariant.one_each in
    omega arith

pub loop-step-preserved : goal.loop-step-preserved
loop-step-preserved c =
    let s = c.args.flat.now in
    let items = c.as_slice-step-items.result.now in
    let ordered = subst (IsRunOrder s) (sym c.as_slice-step-items.ensures) c.requires.ordered in
    let at = c.new-id.ensures ∙ get_or_default items c.loop-step.step-index 0 c.new-id.result c.loop-step-test.true in
    subst (λ xs. AreStanding s items xs (c.loop-step.step-index + 1)) (sym c.set.ensures) (standing_more s items ordered c.loop-step.replaced c.loop-step.step-index c.new-id.result c.in_ok-stands.stands c.loop-step-test.true at c.loop-step.invariant c.in_ok-stands.ensures)

pub returns : goal.returns
returns c =
    let s = c.args.flat.now in
    let items = c.as_slice-step-items.result.now in
    let ordered = subst (IsRunOrder s) (sym c.as_slice-step-items.ensures) c.requires.ordered in
    standing_all s items ordered c.loop-step.replaced c.loop-step.step-index (let stop = c.loop-step-test.false in omega arith) c.loop-step.invariant
