use Rattle.std.proofs.Common.{◌≡◌, ◌↔◌, Some, None, Ok, ap, map, subst, sym, vec_items, ◌∙◌}
use Rattle.std.proofs.lemmas.Bool.{false≢true}
use Rattle.std.proofs.lemmas.Result.{IfOk-weaker}
use Rattle.std.specs.Prelude.{IsTrue}
use Rattle.std.specs.Option.{option_copied, option_map}
use Rattle.flat_core.specs.Events.{at_once}
use Rattle.plain_solver.specs.inner.Typed.{HasPlaces, TakesValues}
use Rattle.event_why.specs.Said.{said}
use Rattle.event_why.specs.inner.Told.{told_all}
use Rattle.event_why.proofs.AgreeLemmas.{agrees_never, agrees_test, told_places}
use Rattle.event_why.proofs.Iff.{through}
use Rattle.event_why.proofs.TellLemmas.{each_from}
use Rattle.event_why.proofs.agrees.agrees.Goals as goal

pub gives-requires-clause-places : goal.gives-requires-clause-places
gives-requires-clause-places c =
    let e = c.args.e.now in
    let t = c.args.t in
    let fs = map said c.args.named.now in
    let told : told_all t e.args fs ≡ Some c.in-Some.values.items =
    sym (ap (λ xs. told_all t xs fs) c.ids.ensures) ∙ sym c.in_ok-values.ensures ∙ ap (option_map vec_items) c.in-Some.is in
    subst (HasPlaces e.op) (sym c.deref.ensures.value) (told_places e t fs c.in-Some.values.items c.requires.shape told)

pub gives-requires-clause-typed : goal.gives-requires-clause-typed
gives-requires-clause-typed c =
    let e = c.args.e.now in
    let t = c.args.t in
    let fs = map said c.args.named.now in
    let told : told_all t e.args fs ≡ Some c.in-Some.values.items =
    sym (ap (λ xs. told_all t xs fs) c.ids.ensures) ∙ sym c.in_ok-values.ensures ∙ ap (option_map vec_items) c.in-Some.is in
    subst (TakesValues e) (sym c.deref.ensures.value) (c.requires.takes.each c.in-Some.values.items (each_from t e.args fs c.in-Some.values.items told))

pub returns-in-Some : goal.returns-in-Some
returns-in-Some c =
    let e = c.args.e.now in
    let t = c.args.t in
    let fs = map said c.args.named.now in
    let told : told_all t e.args fs ≡ Some c.in-Some.values.items =
    sym (ap (λ xs. told_all t xs fs) c.ids.ensures) ∙ sym c.in_ok-values.ensures ∙ ap (option_map vec_items) c.in-Some.is in
    let wanted = option_copied c.args.wanted in
    IfOk-weaker c.gives.result _ _ (λ b is.
    through (subst (λ vs. IsTrue b ↔ (at_once e.op e.of vs t ≡ Ok wanted)) c.deref.ensures.value is) (agrees_test e t fs c.in-Some.values.items wanted told))
    c.gives.ensures

pub returns-in-None : goal.returns-in-None
returns-in-None c =
    let e = c.args.e.now in
    let t = c.args.t in
    let fs = map said c.args.named.now in
    let none : told_all t e.args fs ≡ None =
    sym (ap (λ xs. told_all t xs fs) c.ids.ensures) ∙ sym c.in_ok-values.ensures ∙ ap (option_map vec_items) c.in-None.is in
    (λ is. absurd (false≢true is), λ a. absurd (agrees_never e t fs (option_copied c.args.wanted) none a))
