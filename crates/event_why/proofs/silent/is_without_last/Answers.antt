use Rattle.std.proofs.Common.{rules, ◌≡◌, ◌∷◌, [], inl, inr, map, sym, ◌∙◌}
use Rattle.std.proofs.lemmas.Bool.{false≢true}
use Rattle.event_why.specs.Said.{said}
use Rattle.event_why.proofs.Iff.{through}
use Rattle.event_why.proofs.ListedFacts.{last_two, none_listed, one_is, two_are, two_exist}
use Rattle.event_why.proofs.TellLemmas.{silent_from, silent_so}
use Rattle.event_why.proofs.SilentLemmas.{last_one_test, last_start_test, zero_test}
use Rattle.event_why.proofs.silent.is_without_last.Goals as goal

pub returns-then-is_empty : goal.returns-then-is_empty
returns-then-is_empty c p i =
    let e = c.args.e.now in
    let t = c.args.t in
    let fs = map said c.args.named.now in
    let long = last_two e.op e.args c.requires.last c.requires.shape in
    let args = two_exist e.args long in
    let none : fs ≡ [] = none_listed said c.args.named.now c.is_empty.result c.is_empty.ensures c.if-is_empty.true in
    through (zero_test c.get.result t c.get.ensures.value) (last_start_test p i e t args.0 args.1 fs c.requires.last args.2 none)

pub returns-then-is_silent_at : goal.returns-then-is_silent_at
returns-then-is_silent_at c p i =
    let e = c.args.e.now in
    let t = c.args.t in
    let fs = map said c.args.named.now in
    let long = last_two e.op e.args c.requires.last c.requires.shape in
    let a = c.index-ids-0.result in
    let r = c.index-ids-1.result in
    let args = two_are e.args c.ids.result.now c.ids-2.result.now a r long c.ids.ensures c.ids-2.ensures c.index-ids-0.is c.index-ids-1.is in
    let f = said c.in-Some.fact.now in
    let single : fs ≡ f ∷ [] = one_is fs f (search rules) in
    let test = last_one_test p i e t a r fs f c.requires.last args single in
    let found = test.0 (inl (silent_from r t f (sym c.is_silent_at.ensures ∙ c.if-is_silent_at.true))) in
    (λ is. found, λ lacks. c.if-is_silent_at.true)

pub returns-else-is_silent_at : goal.returns-else-is_silent_at
returns-else-is_silent_at c p i =
    let e = c.args.e.now in
    let t = c.args.t in
    let fs = map said c.args.named.now in
    let long = last_two e.op e.args c.requires.last c.requires.shape in
    let a = c.index-ids-0.result in
    let r = c.index-ids-1.result in
    let args = two_are e.args c.ids.result.now c.ids-2.result.now a r long c.ids.ensures c.ids-2.ensures c.index-ids-0.is c.index-ids-1.is in
    let f = said c.in-Some.fact.now in
    let single : fs ≡ f ∷ [] = one_is fs f (search rules) in
    let test = last_one_test p i e t a r fs f c.requires.last args single in (
      λ is. test.0 (inr (c.is_silent_before.ensures.0 is)),
      λ lacks. elim (test.1 lacks) [
        | inl silent ↦ absurd (false≢true (sym c.if-is_silent_at.false ∙ c.is_silent_at.ensures ∙ silent_so r t f silent))
        | inr before ↦ c.is_silent_before.ensures.1 before
      ],
    )
