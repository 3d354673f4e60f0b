use Rattle.std.proofs.Common.{◌≡◌, ◌+◌, arith, map, subst}
use Rattle.event_why.specs.Said.{said}
use Rattle.event_why.specs.inner.Search.{Lack}
use Rattle.event_why.proofs.LoopLemmas.{lack_end, lack_past}
use Rattle.event_why.proofs.search.count_lacking.Goals as goal

pub loop-fact-init : goal.loop-fact-init
loop-fact-init c = record {
  within = omega arith;
  whole = λ m rest. let same : m ≡ 0 + m = omega arith in subst (Lack (map said c.args.chosen.now) (map said c.args.facts.now)) same rest;
}

pub loop-fact-preserved : goal.loop-fact-preserved
loop-fact-preserved c = record {
  within = let few = c.lacks_one-count.ensures.few in let within = c.loop-fact.invariant.within in omega (arith, few, within);
  whole = lack_past said c.args.facts.now c.loop-fact.fact-index c.fact-item.result c.loop-fact-test.true c.fact-item.is (map said c.args.chosen.now) (map said c.args.facts.now)
      c.loop-fact.count c.lacks_one-count.result c.lacks_one-count.ensures.one c.loop-fact.invariant.whole;
}

pub returns : goal.returns
returns c =
    lack_end said c.args.facts.now c.loop-fact.fact-index c.loop-fact-test.false (map said c.args.chosen.now) (map said c.args.facts.now) c.loop-fact.count c.loop-fact.invariant.whole
