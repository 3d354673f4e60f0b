use Rattle.std.proofs.Common.{◌↔◌, [], List, ◌≤◌, length, map, refl, subst, sym}
use Rattle.std.specs.Prelude.{IsTrue}
use Rattle.flat_core.specs.Line.{inputs_of}
use Rattle.flat_core.proofs.Members.{all_at, all_from}
use Rattle.why_rules.specs.Facts.{Fact}
use Rattle.event_why.specs.Said.{said}
use Rattle.event_why.specs.inner.Grounds.{AreTypedFacts, IsTypedFact}
use Rattle.event_why.specs.inner.Search.{AreDistinct, EndsWell, FollowsSo}
use Rattle.event_why.proofs.FewLemmas.{uses_few}
use Rattle.std.proofs.lemmas.Result.{IfOk-weaker}
use Rattle.event_why.proofs.Iff.{through}
use Rattle.event_why.proofs.SearchLemmas.{as_named, found_order, order_found}
use Rattle.event_why.proofs.search.is_found.Goals as goal

pub returns-then-direct : goal.returns-then-direct
returns-then-direct c =
    let P = FollowsSo c.args.grounds.now.flat.now c.args.grounds.now.slice.now (inputs_of c.args.grounds.now.lines.now) (said c.args.fact.now) in
    let found = as_named P (map said c.args.named.now) (c.in_ok-direct.ensures.0 c.if-direct.true) in
    (λ is. found, λ is. refl)

pub follows_from-requires-clause-distinct : goal.follows_from-requires-clause-distinct
follows_from-requires-clause-distinct c = subst (λ xs. AreDistinct (map said xs)) (sym c.deref.ensures.value) c.in_ok-once.ensures.distinct

pub follows_from-requires-clause-named : goal.follows_from-requires-clause-named
follows_from-requires-clause-named c =
    let s = c.args.grounds.now.flat.now in
    let named = map said c.args.named.now in
    let once = map said c.in_ok-once.once.items in
    subst (λ xs. AreTypedFacts s (map said xs)) (sym c.deref.ensures.value)
    (all_from (IsTypedFact s) once (λ f among. all_at (IsTypedFact s) named c.requires.typed f ((c.in_ok-once.ensures.same f).0 among)))

pub follows_from-requires-clause-chosen : goal.follows_from-requires-clause-chosen
follows_from-requires-clause-chosen c = subst (λ xs. AreTypedFacts c.args.grounds.now.flat.now (map said xs)) (sym c.new-chosen.ensures.items) tt

pub returns : goal.returns
returns c =
    let s = c.args.grounds.now.flat.now in
    let slice = c.args.grounds.now.slice.now in
    let p = inputs_of c.args.grounds.now.lines.now in
    let f = said c.args.fact.now in
    let P = FollowsSo s slice p f in
    let named = map said c.args.named.now in
    let once = map said c.in_ok-once.once.items in
    let few : (us : List Fact) → P us → length us ≤ 8 = uses_few s c.requires.grounds.whole slice p f in
    IfOk-weaker c.follows_from.result _ _ (λ b is.
    let here : IsTrue b ↔ EndsWell P once [] 8 =
    subst (λ xs. IsTrue b ↔ EndsWell P once (map said xs) 8) c.new-chosen.ensures.items (subst (λ xs. IsTrue b ↔ EndsWell P (map said xs) (map said c.new-chosen.result.items) 8) c.deref.ensures.value is) in
    through here (found_order P once named 8 c.in_ok-once.ensures.same, order_found P once named 8 c.in_ok-once.ensures.same few))
    c.follows_from.ensures.order
