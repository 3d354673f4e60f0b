use Rattle.std.proofs.Common.{◌≡◌, ◌↔◌, Some, None, get_or, map, slice_get, subst, sym, ◌∙◌}
use Rattle.std.proofs.lemmas.Bool.{false≢true}
use Rattle.std.proofs.lemmas.Result.{IfOk-weaker}
use Rattle.std.specs.Prelude.{IsTrue}
use Rattle.std.proofs.lemmas.Option.{same_Some, slice_get-get_or}
use Rattle.std.specs.Option.{option_map}
use Rattle.flat_core.specs.Line.{inputs_of}
use Rattle.flat_core.proofs.TypedEvents.{inputs_typed}
use Rattle.why_rules.specs.Rules.{Follows}
use Rattle.event_why.specs.Said.{said}
use Rattle.event_why.specs.declared.fact.WhyStep.{WhyStep}
use Rattle.event_why.specs.Check.{AreNamed}
use Rattle.event_why.specs.inner.Grounds.{AreTypedFacts}
use Rattle.event_why.specs.inner.Named.{IsNaming}
use Rattle.event_why.specs.inner.Search.{InSomeOrder}
use Rattle.event_why.proofs.Iff.{through}
use Rattle.event_why.proofs.CheckLemmas.{late_wrong, named_typed, order_from, right_from}
use Rattle.event_why.proofs.check.is_right.Goals as goal

pub follows_in_some_order-requires-clause-typed : goal.follows_in_some_order-requires-clause-typed
follows_in_some_order-requires-clause-typed c =
    let s = c.args.grounds.now.flat.now in
    let slice = c.args.grounds.now.slice.now in
    let p = inputs_of c.args.grounds.now.lines.now in
    let steps = c.args.steps.now in
    let k = c.args.step in
    let own = get_or steps k c.index-steps-step.result in
    let at : slice_get steps k ≡ Some own = slice_get-get_or steps k c.index-steps-step.result c.requires.there in
    let facts = map said c.in-Some.named.items in
    let named : AreNamed steps k own.by.items facts =
    subst (λ ns. AreNamed steps k ns facts) c.deref.ensures.value
    (subst (λ r. IsNaming steps k c.deref.result.now (option_map (λ v. map said v.items) r)) c.in-Some.is c.in_ok-named.ensures) in
    subst (λ xs. AreTypedFacts s (map said xs)) (sym c.deref-in-Some.ensures.value)
    (named_typed steps s slice p c.requires.grounds.whole (inputs_typed s c.args.grounds.now.lines.now c.requires.typed_lines) k own.by.items facts c.requires.before named)

pub returns-in-Some : goal.returns-in-Some
returns-in-Some c =
    let s = c.args.grounds.now.flat.now in
    let slice = c.args.grounds.now.slice.now in
    let p = inputs_of c.args.grounds.now.lines.now in
    let steps = c.args.steps.now in
    let k = c.args.step in
    let own = get_or steps k c.index-steps-step.result in
    let at : slice_get steps k ≡ Some own = slice_get-get_or steps k c.index-steps-step.result c.requires.there in
    let facts = map said c.in-Some.named.items in
    let named : AreNamed steps k own.by.items facts =
    subst (λ ns. AreNamed steps k ns facts) c.deref.ensures.value
    (subst (λ r. IsNaming steps k c.deref.result.now (option_map (λ v. map said v.items) r)) c.in-Some.is c.in_ok-named.ensures) in
    let other = get_or steps k c.index-steps-step-in-Some.result in
    let also : slice_get steps k ≡ Some other = slice_get-get_or steps k c.index-steps-step-in-Some.result c.requires.there in
    let same = same_Some own other (sym at ∙ also) in
    let named_so : AreNamed steps k other.by.items facts = subst (λ (w : WhyStep). AreNamed steps k w.by.items facts) same named in
    IfOk-weaker c.follows_in_some_order.result _ _ (λ b is.
    through (subst (λ xs. IsTrue b ↔ InSomeOrder (Follows s slice p (said other.fact)) (map said xs)) c.deref-in-Some.ensures.value is)
    (λ o. right_from steps s slice p k other facts also named_so o, λ r. order_from steps s slice p k other facts also named_so r))
    c.follows_in_some_order.ensures

pub returns-in-None : goal.returns-in-None
returns-in-None c =
    let s = c.args.grounds.now.flat.now in
    let slice = c.args.grounds.now.slice.now in
    let p = inputs_of c.args.grounds.now.lines.now in
    let steps = c.args.steps.now in
    let k = c.args.step in
    let own = get_or steps k c.index-steps-step.result in
    let at : slice_get steps k ≡ Some own = slice_get-get_or steps k c.index-steps-step.result c.requires.there in
    let late = subst (λ ns. IsNaming steps k ns None) c.deref.ensures.value
    (subst (λ r. IsNaming steps k c.deref.result.now (option_map (λ v. map said v.items) r)) c.in-None.is c.in_ok-named.ensures) in
    let never = late_wrong s slice p steps k own late.0 at late.1 late.2 in
    (λ is. absurd (false≢true is), λ r. absurd (never r))
