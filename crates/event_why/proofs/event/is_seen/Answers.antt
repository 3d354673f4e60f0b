use Rattle.std.proofs.Common.{rules, ◌≡◌, ◌↔◌, ◌∷◌, [], map, subst}
use Rattle.std.specs.Prelude.{IsTrue}
use Rattle.tsl_value.specs.View.{Plain}
use Rattle.event_why.specs.Said.{said}
use Rattle.event_why.specs.inner.Silence.{IsEventOfOne}
use Rattle.event_why.proofs.Iff.{through, with_first}
use Rattle.event_why.proofs.ListedFacts.{one_is}
use Rattle.event_why.proofs.EventLemmas.{seen_test}
use Rattle.event_why.proofs.event.is_seen.Goals as goal

pub returns-then-is_scalar : goal.returns-then-is_scalar
returns-then-is_scalar c p i =
    let fs = map said c.args.named.now in
    let e = c.args.e.now in
    let f = said c.in-Some.fact.now in
    let single : fs ≡ f ∷ [] = one_is fs f (search rules) in
    let event : IsTrue c.is_event_of_one.result ↔ IsEventOfOne e.args c.args.t f =
    subst (λ xs. IsTrue c.is_event_of_one.result ↔ IsEventOfOne xs c.args.t f) c.ids.ensures c.is_event_of_one.ensures in
    through event (with_first (c.is_scalar.ensures.0 c.if-is_scalar.true) (seen_test p i e c.args.t c.args.value.now (Plain c.args.made.now) fs f c.requires single))
