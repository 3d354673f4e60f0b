use Rattle.std.proofs.Common.{rules, ◌≡◌, ◌∷◌, [], map}
use Rattle.event_why.specs.Said.{said}
use Rattle.event_why.proofs.ListedFacts.{none_listed, one_is}
use Rattle.event_why.proofs.EventLemmas.{between_none_test, between_one_test}
use Rattle.event_why.proofs.event.is_silent_between.Goals as goal

pub returns-then-is_empty : goal.returns-then-is_empty
returns-then-is_empty c =
    let none : map said c.args.named.now ≡ [] = none_listed said c.args.named.now c.is_empty.result c.is_empty.ensures c.if-is_empty.true in
    between_none_test c.args.i c.args.from c.args.to (map said c.args.named.now) none

pub returns-then-from-to : goal.returns-then-from-to
returns-then-from-to c =
    let one : map said c.args.named.now ≡ said c.in-Some.fact.now ∷ [] = one_is (map said c.args.named.now) (said c.in-Some.fact.now) (search rules) in
    between_one_test c.args.i c.args.from c.args.to (map said c.args.named.now) (said c.in-Some.fact.now) c.is_silence.result one c.if-from-to.true c.is_silence.ensures
