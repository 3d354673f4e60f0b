use Rattle.std.proofs.Common.{◌≡◌, sym, subst, ◌∙◌, arith}
use Rattle.std.proofs.lemmas.Bool.{false≢true}
use Rattle.translation_order.specs.Least.{IsLeast}
use Rattle.equation_types.specs.Breaking.{BreaksTypes}
use Rattle.equation_types.specs.inner.Answer.{FitsAt}
use Rattle.equation_types.proofs.Equations.{all_fit, first_breaks, fit_next}
use Rattle.equation_types.proofs.equation.first_that_breaks.Goals as goal

pub returns-then-not-branch : goal.returns-then-not-branch
returns-then-not-branch c =
    let es = c.args.equations.now in
    let running = c.args.running.now in
    let here : c.loop-number.number ≡ c.new-id.result = let is = c.new-id.ensures in omega arith in
    subst (IsLeast (BreaksTypes es running)) here
    (first_breaks es running c.loop-number.number (let low = c.loop-number-test.true in omega arith) c.loop-number.invariant
    (λ fit. false≢true (sym c.if-not-branch.true ∙ c.in_ok-fits.ensures.1 (subst (FitsAt es running) here fit))))

pub loop-number-preserved : goal.loop-number-preserved
loop-number-preserved c =
    let es = c.args.equations.now in
    let running = c.args.running.now in
    let here : c.new-id.result ≡ c.loop-number.number = let is = c.new-id.ensures in omega arith in
    fit_next es running c.loop-number.number c.loop-number.invariant (subst (FitsAt es running) here (c.in_ok-fits.ensures.0 c.if-not-branch.false))

pub returns : goal.returns
returns c =
    all_fit c.args.equations.now c.args.running.now c.loop-number.number (let end = c.loop-number-test.false in omega arith) c.loop-number.invariant
