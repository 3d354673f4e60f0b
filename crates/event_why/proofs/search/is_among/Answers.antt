use Rattle.std.proofs.Common.{refl, sym, ◌∙◌}
use Rattle.std.proofs.lemmas.Bool.{false≢true}
use Rattle.event_why.specs.Said.{said}
use Rattle.event_why.proofs.LoopLemmas.{among_end, among_found, among_past}
use Rattle.event_why.proofs.search.is_among.Goals as goal

pub loop-other-init : goal.loop-other-init
loop-other-init c = (λ is. is, λ is. is)

pub loop-other-preserved : goal.loop-other-preserved
loop-other-preserved c =
    among_past said c.args.facts.now c.loop-other.other-index c.other-item.result c.loop-other-test.true c.other-item.is (said c.args.fact.now)
    (λ same. false≢true (sym c.if-is_same.false ∙ c.is_same.ensures.1 same)) c.loop-other.invariant

pub returns-then-is_same : goal.returns-then-is_same
returns-then-is_same c =
    let found = among_found said c.args.facts.now c.loop-other.other-index c.other-item.result c.loop-other-test.true c.other-item.is (said c.args.fact.now)
    (c.is_same.ensures.0 c.if-is_same.true) c.loop-other.invariant in
    (λ is. found, λ is. refl)

pub returns : goal.returns
returns c =
    let none = among_end said c.args.facts.now c.loop-other.other-index c.loop-other-test.false (said c.args.fact.now) c.loop-other.invariant in
    (λ is. absurd (false≢true is), λ is. absurd (none is))
