use Rattle.std.proofs.Common.{rules, ◌≡◌, ◌↔◌, ◌+◌, ◌∷◌, suc, ap, arith, map, subst, sym, ◌∙◌}
use Rattle.std.specs.Prelude.{IsTrue}
use Rattle.why_rules.specs.Rules.{SilentBetween}
use Rattle.event_why.specs.Said.{said}
use Rattle.event_why.proofs.Iff.{through, with_first}
use Rattle.event_why.proofs.ListedFacts.{last_two, two_are}
use Rattle.event_why.proofs.TellLemmas.{event_there}
use Rattle.event_why.proofs.EventLemmas.{last_test}
use Rattle.event_why.proofs.event.is_last.Goals as goal

pub returns-then-is_event_of : goal.returns-then-is_event_of
returns-then-is_event_of c p i =
    let e = c.args.e.now in
    let t = c.args.t in
    let long = last_two e.op e.args c.requires.last c.requires.shape in
    let a = c.index-ids-0.result in
    let r = c.index-ids-1.result in
    let args = two_are e.args c.ids.result.now c.ids-2.result.now a r long c.ids.ensures c.ids-2.ensures c.index-ids-0.is c.index-ids-1.is in
    let asked = c.in-Some.asked.now in
    let earlier = c.in-Some-split_first.earlier.now in
    let bs = map said c.in-Some-split_first.between.now in
    let first : c.args.named.now ≡ asked ∷ c.in-Some.rest.now = search rules in
    let second : c.in-Some.rest.now ≡ earlier ∷ c.in-Some-split_first.between.now = search rules in
    let are : map said c.args.named.now ≡ said asked ∷ said earlier ∷ bs = ap (map said) first ∙ ap (λ xs. said asked ∷ map said xs) second in
    let u = c.in-Some-earlier_in.u in
    let found = c.in-Some-earlier_in.ensures in
    let same = c.get.ensures.value in
    let next : c.get.result + 1 ≡ suc u = omega (arith, same) in
    let between : IsTrue c.is_silent_between.result ↔ SilentBetween a (suc u) t bs =
    subst (λ n. IsTrue c.is_silent_between.result ↔ SilentBetween a n t bs) next
    (subst (λ m. IsTrue c.is_silent_between.result ↔ SilentBetween a (c.get.result + 1) m bs) c.get-then-is_event_of.ensures.value c.is_silent_between.ensures) in
    let event = event_there r t (said asked) (sym c.is_event_of.ensures ∙ c.if-is_event_of.true) in
    through between (with_first event (last_test p i e t a r u c.args.value.now (map said c.args.named.now) (said asked) (said earlier) bs c.requires.last args are found.0 found.1))
