use Rattle.std.proofs.Common.{rules, ◌≡◌, [], false, arith, map}
use Rattle.std.proofs.lemmas.Bool.{false≢true}
use Rattle.std.proofs.lemmas.Result.{IfOk-weaker}
use Rattle.event_why.specs.Said.{said}
use Rattle.event_why.proofs.Iff.{through}
use Rattle.event_why.proofs.ListedFacts.{none_listed, some_listed}
use Rattle.event_why.proofs.EventLemmas.{constant_never, constant_test}
use Rattle.event_why.proofs.event.is_first.Goals as goal

pub returns-then-not-is_empty : goal.returns-then-not-is_empty
returns-then-not-is_empty c p i =
    let no : c.is_empty.result ≡ false = search rules in
    let never = constant_never p i c.args.e.now c.args.t c.args.value.now (map said c.args.named.now) c.requires.constant (λ none start. some_listed said c.args.named.now c.is_empty.result c.is_empty.ensures no none) in
    (λ is. absurd (false≢true is), λ makes. absurd (never makes))

pub returns-then-get-ne0 : goal.returns-then-get-ne0
returns-then-get-ne0 c p i =
    let same = c.get.ensures.value in
    let other = c.if-get-ne0.true in
    let never = constant_never p i c.args.e.now c.args.t c.args.value.now (map said c.args.named.now) c.requires.constant (λ none start. absurd (omega (arith, same, other, start))) in
    (λ is. absurd (false≢true is), λ makes. absurd (never makes))

pub returns : goal.returns
returns c =
    let none : map said c.args.named.now ≡ [] = none_listed said c.args.named.now c.is_empty.result c.is_empty.ensures (search rules) in
    let same = c.get.ensures.value in
    let zero_is = c.if-get-ne0.false in
    let start : c.args.t ≡ 0 = omega (arith, same, zero_is) in
    IfOk-weaker c.gives.result _ _ (λ b is p i. through is (constant_test p i c.args.e.now c.args.t c.args.value.now (map said c.args.named.now) c.requires.constant none start)) c.gives.ensures
