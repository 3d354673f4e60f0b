-- The values of what follows are of their equations' types.
use Rattle.std.proofs.Common.{◌≡◌, ℕ, List, [], ◌∷◌, Option, Some, None, Ok, pos, refl, sym, ap, subst, ◌∙◌}
use Rattle.std.proofs.lemmas.Bool.{false≢true}
use Rattle.std.proofs.lemmas.Option.{none-some, same_Some}
use Rattle.std.specs.Prelude.{IsTrue}
use Rattle.tsl_value.specs.View.{View, Plain, is_of}
use Rattle.tsl_value.specs.declared.scalar.Scalar.TheVariants as scalar
use Rattle.tsl_value.specs.declared.scalar.ValueType.{ValueType}
use Rattle.lift_func.specs.Typing.{Optional, FitsAnswer}
use Rattle.flat_core.specs.declared.equation.Equation.{Equation}
use Rattle.flat_core.specs.declared.equation.Op.{Op}
use Rattle.flat_core.specs.declared.equation.Op.TheVariants as op
use Rattle.flat_core.specs.Complete.{IsFlat}
use Rattle.flat_core.specs.Events.{Inputs, unit, at_once}
use Rattle.flat_core.specs.System.{System, equation}
use Rattle.flat_core.specs.Typed.{IsTyped, int_type, unit_type}
use Rattle.flat_core.specs.Typed as typed
use Rattle.flat_core.specs.TypedSystem.{AreOfTypes, IsOfType}
use Rattle.flat_core.specs.inner.TypedEvents.{IsOf, AreOf, AreTypedInputs}
use Rattle.flat_core.proofs.TypedCase.{at_once_typed, is_of_from}
use Rattle.flat_core.proofs.UpdateOps.{no_update}
use Rattle.plain_solver.specs.inner.Typed.{TakesValues}
use Rattle.why_rules.specs.Facts.{Fact, Happens, Silent, Gap, Pending}
use Rattle.why_rules.specs.Rules.{Tells, TellsEach, Makes, IsMember, Follows, computes, is_constant, seen_by}
use Rattle.why_rules.specs.Rules as rule
use Rattle.event_why.specs.inner.Agrees.{TakesTold}
use Rattle.event_why.specs.inner.Grounds.{IsTypedFact, AreTypedFacts}

-- ---- facts that are no events, and equal events

number_in : Fact → ℕ
number_in (Happens i t v) = i
number_in (Silent i from to) = 0
number_in (Gap from to) = 0
number_in (Pending i t due) = 0

value_in : View → Fact → View
value_in d (Happens i t v) = v
value_in d (Silent i from to) = d
value_in d (Gap from to) = d
value_in d (Pending i t due) = d

module _ (s : System) where
  pub event_typed : (i t : ℕ) (v : View) → ((e : Equation) → equation s i ≡ Some e → IsTrue (is_of e.of v)) → IsTypedFact s (Happens i t v)
  unfolding number_in value_in
  event_typed i t v of = record {
    each = λ j u w same e at.
        let number : i ≡ j = ap number_in same in
        let value : v ≡ w = ap (value_in v) same in
        subst (λ x. IsTrue (is_of e.of x)) value (of e (ap (equation s) number ∙ at));
  }

  pub event_of : (i t : ℕ) (v : View) → IsTypedFact s (Happens i t v) → (e : Equation) → equation s i ≡ Some e → IsTrue (is_of e.of v)
  event_of i t v f e at = f.each i t v refl e at

  -- ---- what is told

  one_typed : (a t : ℕ) (v : Option View) (f : Fact) → Tells a t v f → IsTypedFact s f → (e : Equation) → equation s a ≡ Some e → IsOf e.of v
  one_typed a t v f (rule.Tells.event {v = x}) fact e at = is_of_from e.of (Some x) (λ y is. subst (λ z. IsTrue (is_of e.of z)) (same_Some x y is) (event_of a t x fact e at))
  one_typed a t v f (rule.Tells.none low high) fact e at = is_of_from e.of None (λ y is. absurd (none-some y is))

  pub told_typed : (t : ℕ) (args : List ℕ) (types : List ValueType) (values : List (Option View)) (fs : List Fact) → AreOfTypes s.equations args types → TellsEach t args values fs → AreTypedFacts s fs → AreOf types values
  told_typed t args [] values fs of rule.TellsEach.done all = tt
  told_typed t args (x ∷ types) values fs of rule.TellsEach.done all = absurd of
  told_typed t args [] values fs of (rule.TellsEach.next tells rest) all = absurd of
  told_typed t args (x ∷ types) values fs of (rule.TellsEach.next {a = a} {args = others} {v = v} {vs = vs} {f = f} {fs = gs} tells rest) all =
      (subst (λ k. IsOf k v) of.0.of_is (one_typed a t v f tells all.0 of.0.at of.0.is), told_typed t others types vs gs of.1 rest all.1)

  module _ (whole : IsFlat s) where
    pub takes_told : (i t : ℕ) (e : Equation) (fs : List Fact) → equation s i ≡ Some e → AreTypedFacts s fs → TakesTold e t fs
    takes_told i t e fs at all =
        let g = whole.complete.typed.each i e at in
        record { each = λ values tells. record { types = g.types; typed = g.typed; fit = told_typed t e.args g.types values fs g.arguments tells all } }

    -- ---- what is made

    unit_takes : (types : List ValueType) (of : ValueType) → IsTyped op.Unit types of → AreOf types []
    unit_takes types of typed.unit = tt
    unit_takes types of (typed.update up row) = no_update up

    empty_takes : (types : List ValueType) (of : ValueType) → IsTyped op.Empty types of → AreOf types []
    empty_takes types of (typed.empty is) = tt
    empty_takes types of (typed.update up row) = no_update up

    constant_takes : (o : Op) (types : List ValueType) (of : ValueType) → IsTrue (is_constant o) → IsTyped o types of → AreOf types []
    constant_takes op.Unit types of is row = unit_takes types of row
    constant_takes op.Empty types of is row = empty_takes types of row
    constant_takes o types of is row = absurd (false≢true is)

    pub constant_values : (i : ℕ) (e : Equation) → equation s i ≡ Some e → IsTrue (is_constant e.op) → TakesValues e []
    constant_values i e at is =
        let g = whole.complete.typed.each i e at in
        record { types = g.types; typed = g.typed; fit = constant_takes e.op g.types e.of is g.typed }

    -- what an operation makes of values that it takes
    answered : (e : Equation) (values : List (Option View)) (t : ℕ) (v : View) → TakesValues e values → at_once e.op e.of values t ≡ Ok (Some v) → IsTrue (is_of e.of v)
    answered e values t v takes is = subst (FitsAnswer (Optional e.of)) is (at_once_typed e.op takes.types e.of takes.typed values takes.fit t)

    time_of : (types : List ValueType) (of : ValueType) → IsTyped op.Time types of → int_type ≡ of
    time_of types of typed.time = refl
    time_of types of (typed.update up row) = no_update up

    any_of : (types : List ValueType) (of : ValueType) → IsTyped op.Any types of → unit_type ≡ of
    any_of types of (typed.any low high) = refl
    any_of types of (typed.update up row) = no_update up

    seen_typed : (o : Op) (types : List ValueType) (of : ValueType) (t : ℕ) (v : View) → seen_by o t ≡ Some v → IsTyped o types of → IsTrue (is_of of v)
    seen_typed op.Time types of t v is row =
        let made : View = Plain (scalar.Int (pos t)) in
        let fits : IsTrue (is_of int_type made) = refl in
        subst (λ k. IsTrue (is_of k v)) (time_of types of row) (subst (λ x. IsTrue (is_of int_type x)) (same_Some made v is) fits)
    seen_typed op.Any types of t v is row =
        let fits : IsTrue (is_of unit_type unit) = refl in
        subst (λ k. IsTrue (is_of k v)) (any_of types of row) (subst (λ x. IsTrue (is_of unit_type x)) (same_Some unit v is) fits)
    seen_typed o types of t v is row = absurd (none-some v is)

    -- types of arguments
    merge_types : (types : List ValueType) (of : ValueType) → IsTyped op.Merge types of → types ≡ of ∷ of ∷ []
    merge_types types of typed.merge = refl
    merge_types types of (typed.update up row) = no_update up

    last_types : (types : List ValueType) (of : ValueType) → IsTyped op.Last types of → (u : ValueType) × (types ≡ of ∷ u ∷ [])
    last_types types of (typed.last {u = u}) = (u, refl)
    last_types types of (typed.update up row) = no_update up

    delay_of : (types : List ValueType) (of : ValueType) → IsTyped op.Delay types of → unit_type ≡ of
    delay_of types of typed.delay = refl
    delay_of types of (typed.update up row) = no_update up

    -- an event of an equation of a type
    of_type : (a t : ℕ) (v : View) (k : ValueType) → IsTypedFact s (Happens a t v) → IsOfType s.equations a k → IsTrue (is_of k v)
    of_type a t v k fact is = subst (λ x. IsTrue (is_of x v)) is.of_is (event_of a t v fact is.at is.is)

    module _ (p : Inputs) (given : AreTypedInputs s p) (i : ℕ) (e : Equation) (at : equation s i ≡ Some e) where
      -- the types of two arguments of an operation that is known
      two_types : (o : Op) (a b : ℕ) (ks : List ValueType) → e.op ≡ o → e.args ≡ a ∷ b ∷ [] → ((types : List ValueType) → IsTyped o types e.of → types ≡ ks) → AreOfTypes s.equations (a ∷ b ∷ []) ks
      two_types o a b ks op_is args_are known =
          let g = whole.complete.typed.each i e at in
          let row = subst (λ c. IsTyped c g.types e.of) op_is g.typed in
          subst (λ xs. AreOfTypes s.equations xs ks) args_are (subst (λ ts. AreOfTypes s.equations e.args ts) (known g.types row) g.arguments)

      pub made_typed : (t : ℕ) (v : View) (fs : List Fact) → Makes p i e t v fs → AreTypedFacts s fs → IsTrue (is_of e.of v)
      made_typed t v fs (rule.Makes.given op_is is) all = given.each i e at op_is t v is
      made_typed t v fs (rule.Makes.constant is once) all = answered e [] 0 v (constant_values i e at is) once
      made_typed t v fs (rule.Makes.seen is among) all =
          let g = whole.complete.typed.each i e at in
          seen_typed e.op g.types e.of t v is g.typed
      made_typed t v fs (rule.Makes.first {a = a} {b = b} op_is args_are) all =
          let types = two_types op.Merge a b (e.of ∷ e.of ∷ []) op_is args_are (λ ts row. merge_types ts e.of row) in
          of_type a t v e.of all.0 types.0
      made_typed t v fs (rule.Makes.second {a = a} {b = b} {f = f} op_is args_are silent) all =
          let types = two_types op.Merge a b (e.of ∷ e.of ∷ []) op_is args_are (λ ts row. merge_types ts e.of row) in
          of_type b t v e.of all.1.0 types.1.0
      made_typed t v fs (rule.Makes.computed {vs = vs} is tells once) all = answered e vs t v ((takes_told i t e fs at all).each vs tells) once
      made_typed t v fs (rule.Makes.last {u = u} {a = a} {r = r} op_is args_are earlier between) all =
          let g = whole.complete.typed.each i e at in
          let known = last_types g.types e.of (subst (λ c. IsTyped c g.types e.of) op_is g.typed) in
          let types = subst (λ xs. AreOfTypes s.equations xs (e.of ∷ known.0 ∷ [])) args_are (subst (λ ts. AreOfTypes s.equations e.args ts) known.1 g.arguments) in
          of_type a u v e.of all.1.0 types.0
      made_typed t v fs (rule.Makes.expired op_is) all =
          let g = whole.complete.typed.each i e at in
          let fits : IsTrue (is_of unit_type unit) = refl in
          subst (λ k. IsTrue (is_of k unit)) (delay_of g.types e.of (subst (λ c. IsTyped c g.types e.of) op_is g.typed)) fits

    -- ---- whatever follows

    no_event : (f : Fact) → ((i t : ℕ) (v : View) → f ≡ Happens i t v → ⊥) → IsTypedFact s f
    no_event f none = record { each = λ i t v is e at. absurd (none i t v is) }

    pub follows_typed : (slice : List ℕ) (p : Inputs) → AreTypedInputs s p → (f : Fact) (uses : List Fact) → Follows s slice p f uses → AreTypedFacts s uses → IsTypedFact s f
    follows_typed slice p given f uses (rule.Follows.happens {i = i} {t = t} {v = v} e m makes) all =
        event_typed i t v (λ g at. subst (λ (k : Equation). IsTrue (is_of k.of v)) (same_Some e g (sym m.is ∙ at)) (made_typed p given i e m.is t v uses makes all))
    follows_typed slice p given f uses (rule.Follows.silent e m lacks) all = no_event f (λ i t v is. absurd (cc))
    follows_typed slice p given f uses (rule.Follows.silent_in_gap e m low times high) all = no_event f (λ i t v is. absurd (cc))
    follows_typed slice p given f uses (rule.Follows.silent_joined e m low high) all = no_event f (λ i t v is. absurd (cc))
    follows_typed slice p given f uses (rule.Follows.gap later none wait) all = no_event f (λ i t v is. absurd (cc))
    follows_typed slice p given f uses (rule.Follows.pending e m op_is args_are keeps) all = no_event f (λ i t v is. absurd (cc))
