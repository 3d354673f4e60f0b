use Rattle.std.proofs.Common.{◌≤◌, arith, refl, sym, subst, ◌∙◌}
use Rattle.std.proofs.lemmas.Bool.{false≢true}
use Rattle.flat_core.specs.declared.line.TraceLine.{TraceLine}
use Rattle.event_why.proofs.GivenLemmas.{given_here, late_here, nothing_end, nothing_past}
use Rattle.event_why.proofs.gap.is_nothing_in.Goals as goal

pub loop-line-init : goal.loop-line-init
loop-line-init c = (λ a. a, λ a. a)

pub returns-then-get : goal.returns-then-get
returns-then-get c =
    let all = late_here c.args.grounds.now.flat.now c.args.grounds.now.slice.now c.args.from c.args.to c.args.lines.now c.loop-line.line-index c.line-item.result c.loop-line-test.true c.line-item.is
    c.requires.sorted (omega arith) c.loop-line.invariant in
    (λ is. all, λ is. refl)

pub returns-then-is_given : goal.returns-then-is_given
returns-then-is_given c =
    let low = subst (λ (l : TraceLine). c.args.from ≤ l.time) (sym c.line-item.is) (c.requires.late c.loop-line.line-index c.line-item.result c.loop-line-test.true) in
    let never = given_here c.args.grounds.now.flat.now c.args.grounds.now.slice.now c.args.from c.args.to c.args.lines.now c.loop-line.line-index c.line-item.result c.loop-line-test.true c.line-item.is
    low (omega arith) (c.is_given.ensures.0 c.if-is_given.true) c.loop-line.invariant in
    (λ is. absurd (false≢true is), λ is. absurd (never is))

pub loop-line-preserved : goal.loop-line-preserved
loop-line-preserved c =
    nothing_past c.args.grounds.now.flat.now c.args.grounds.now.slice.now c.args.from c.args.to c.args.lines.now c.loop-line.line-index c.line-item.result c.loop-line-test.true c.line-item.is
    (λ low high g. false≢true (sym c.if-is_given.false ∙ c.is_given.ensures.1 g)) c.loop-line.invariant

pub returns : goal.returns
returns c =
    let all = nothing_end c.args.grounds.now.flat.now c.args.grounds.now.slice.now c.args.from c.args.to c.args.lines.now c.loop-line.line-index c.loop-line-test.false c.loop-line.invariant in
    (λ is. all, λ is. refl)
