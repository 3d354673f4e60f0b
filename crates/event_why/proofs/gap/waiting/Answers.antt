use Rattle.std.proofs.Common.{sym, ◌∙◌}
use Rattle.std.proofs.lemmas.Bool.{false≢true}
use Rattle.tsl_value.proofs.Lists.{none_in_nil}
use Rattle.event_why.specs.Said.{said}
use Rattle.event_why.specs.inner.Waits.{IsWaiting}
use Rattle.event_why.proofs.LoopLemmas.{is_member, none_end, none_more}
use Rattle.event_why.proofs.gap.waiting.Goals as goal

pub loop-fact-init : goal.loop-fact-init
loop-fact-init c f among = absurd (none_in_nil f among)

pub loop-fact-preserved : goal.loop-fact-preserved
loop-fact-preserved c =
    none_more said c.args.facts.now c.loop-fact.fact-index c.fact-item.result c.loop-fact-test.true c.fact-item.is (IsWaiting c.args.i c.args.before c.args.to)
    (λ waits. false≢true (sym c.if-is_waiting.false ∙ c.is_waiting.ensures.1 waits)) c.loop-fact.invariant

pub returns-then-is_waiting-clause-some : goal.returns-then-is_waiting-clause-some
returns-then-is_waiting-clause-some c =
    (c.is_waiting.ensures.0 c.if-is_waiting.true, is_member said c.args.facts.now c.loop-fact.fact-index c.fact-item.result c.loop-fact-test.true c.fact-item.is)

pub returns-clause-none : goal.returns-clause-none
returns-clause-none c =
    none_end said c.args.facts.now c.loop-fact.fact-index c.loop-fact-test.false (IsWaiting c.args.i c.args.before c.args.to) c.loop-fact.invariant
