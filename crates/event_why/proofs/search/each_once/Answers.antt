use Rattle.std.proofs.Common.{rules, map, ap, subst, sym, ◌≡◌, []}
use Rattle.event_why.specs.Said.{said}
use Rattle.event_why.specs.Check.{HaveSame}
use Rattle.event_why.specs.inner.Search.{AreDistinct}
use Rattle.event_why.proofs.LoopLemmas.{once_past, same_end}
use Rattle.event_why.proofs.search.each_once.Goals as goal

pub loop-fact-init : goal.loop-fact-init
loop-fact-init c =
    let none : map said c.new-once.result.items ≡ [] = ap (map said) c.new-once.ensures.items in
    record { same = subst (λ xs. HaveSame xs []) (sym none) (λ f. (λ a. a, λ a. a)); distinct = subst AreDistinct (sym none) tt }

pub loop-fact-preserved : goal.loop-fact-preserved
loop-fact-preserved c =
    let put = once_past said c.args.facts.now c.loop-fact.fact-index c.fact-item.result c.loop-fact-test.true c.fact-item.is
    (map said c.loop-fact.once.items) (map said c.put_once.new.once.items) (search rules) c.loop-fact.invariant.same c.loop-fact.invariant.distinct in
    record { same = put.0; distinct = put.1 }

pub returns-clause-same : goal.returns-clause-same
returns-clause-same c = same_end said c.args.facts.now c.loop-fact.fact-index c.loop-fact-test.false (map said c.loop-fact.once.items) c.loop-fact.invariant.same
