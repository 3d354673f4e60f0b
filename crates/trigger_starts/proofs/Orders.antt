-- The rules of a flat system are closed, and its run order is one of its rules.
use Rattle.std.proofs.Common.{◌≡◌, ℕ, ◌<◌, Bool, ◌||◌, true, false, List, [], ◌∷◌, ◌++◌, length, Contains, Option, Some, None, refl, sym, ap, subst, ◌∙◌, inl, inr, arith}
use Rattle.std.specs.Prelude.{IsTrue, slice_get}
use Rattle.std.specs.List.{AllByRecursion}
use Rattle.std.specs.Option.{option_map}
use Rattle.std.proofs.lemmas.Bool.{eq-eqb, false≢true, true≢false}
use Rattle.std.proofs.lemmas.List.{length-map}
use Rattle.std.proofs.lemmas.List.Elements.{All-from_recursion, Contains-append_left, Contains-push, Contains-push_cases}
use Rattle.std.proofs.lemmas.Option.{slice_get-map, slice_get_within}
use Rattle.tsl_value.specs.declared.scalar.ValueType.{ValueType}
use Rattle.flat_core.specs.declared.equation.Equation.{Equation}
use Rattle.flat_core.specs.declared.equation.Op.{Op}
use Rattle.flat_core.specs.declared.equation.Op.TheVariants as op
use Rattle.flat_core.specs.Case.{used_of}
use Rattle.flat_core.specs.Complete.{IsFlat}
use Rattle.flat_core.specs.inner.Dependency.{with_one, IsOrdered, IsRunOrder}
use Rattle.flat_core.specs.System.{System, equation}
use Rattle.flat_core.specs.TypedSystem.{AreOfTypes}
use Rattle.flat_core.proofs.Existence.{more_done, one_or_done}
use Rattle.flat_core.proofs.Members.{Contains-in}
use Rattle.flat_core.proofs.Uniqueness.{all_by}
use Rattle.trigger_starts.specs.declared.rules.Rule.{Rule}
use Rattle.tsl_value.proofs.Lists.{none_in_nil}
use Rattle.trigger_starts.specs.inner.Kept.{IsOrder}
use Rattle.trigger_starts.specs.inner.Rules.{AreClosed, AreReady, named_by, rule_by, rule_of, rules_of, used_by}

-- what a rule uses and names are arguments
used_all : (P : ℕ → Type 0) (o : Op) (args : List ℕ) → AllByRecursion P (used_of o args) → AllByRecursion P (used_by (rule_by o args))
used_all P op.Input args all = tt
used_all P op.Nil args all = tt
used_all P op.Unit args all = tt
used_all P op.Empty args all = tt
used_all P (op.Lift body true) args all = all
used_all P (op.Lift body false) args all = all
used_all P op.Filter [] all = tt
used_all P op.Filter (a ∷ []) all = tt
used_all P op.Filter (a ∷ b ∷ []) all = all
used_all P op.Filter (a ∷ b ∷ c ∷ args) all = tt
used_all P op.Last [] all = tt
used_all P op.Last (a ∷ []) all = tt
used_all P op.Last (a ∷ b ∷ []) all = all
used_all P op.Last (a ∷ b ∷ c ∷ args) all = tt
used_all P op.Delay args all = tt
used_all P o args all = all

named_all : (P : ℕ → Type 0) (o : Op) (args : List ℕ) → AllByRecursion P args → AllByRecursion P (named_by (rule_by o args))
named_all P op.Input args all = tt
named_all P op.Nil args all = tt
named_all P op.Unit args all = tt
named_all P op.Empty args all = tt
named_all P (op.Lift body true) args all = all
named_all P (op.Lift body false) args all = all
named_all P op.Filter [] all = tt
named_all P op.Filter (a ∷ []) all = tt
named_all P op.Filter (a ∷ b ∷ []) all = all
named_all P op.Filter (a ∷ b ∷ c ∷ args) all = tt
named_all P op.Last [] all = tt
named_all P op.Last (a ∷ []) all = tt
named_all P op.Last (a ∷ b ∷ []) all = all
named_all P op.Last (a ∷ b ∷ c ∷ args) all = tt
named_all P op.Delay args all = tt
named_all P o args all = all

module _ (s : System) where
  pub count : length (rules_of s) ≡ length s.equations
  count = length-map s.equations rule_of

  -- a rule is that of an equation
  record IsRuleOf (x : ℕ) (it : Rule) : Type 0 where
    pub at : Equation
    pub is : equation s x ≡ Some at
    pub rule_is : rule_of at ≡ it

  rule_from : (x : ℕ) (it : Rule) (found : Option Equation) → equation s x ≡ found → option_map rule_of found ≡ Some it → IsRuleOf x it
  rule_from x it None is mapped = absurd (cc)
  rule_from x it (Some e) is mapped = record { at = e; is = is; rule_is = cc }

  rule_at : (x : ℕ) (it : Rule) → slice_get (rules_of s) x ≡ Some it → IsRuleOf x it
  rule_at x it is = rule_from x it (equation s x) refl (sym (slice_get-map rule_of s.equations x) ∙ is)

  typed_low : (args : List ℕ) (types : List ValueType) → AreOfTypes s.equations args types → AllByRecursion (λ a. a < length (rules_of s)) args
  typed_low [] types typed = tt
  typed_low (a ∷ args) [] typed = absurd typed
  typed_low (a ∷ args) (t ∷ types) typed = (let low = slice_get_within s.equations a typed.0.at typed.0.is in let same = count in omega arith, typed_low args types typed.1)

  pub closed : IsFlat s → AreClosed (rules_of s)
  closed flat x it is =
      let e = rule_at x it is in
      let typed = flat.complete.typed.each x e.at e.is in
      let low : AllByRecursion (λ a. a < length (rules_of s)) (named_by (rule_of e.at)) = named_all (λ a. a < length (rules_of s)) e.at.op e.at.args (typed_low e.at.args typed.types typed.arguments) in
      All-from_recursion (λ a. a < length (rules_of s)) (named_by it) (subst (λ r. AllByRecursion (λ a. a < length (rules_of s)) (named_by r)) e.rule_is low)

  order_ready : (order front : List ℕ) (done : ℕ → Bool) → ((a : ℕ) → IsTrue (done a) → Contains front a) → ((a : ℕ) → Contains front a → IsTrue (done a)) → IsOrdered s done order → AreReady (rules_of s) front order
  order_ready [] front done from to ordered = tt
  order_ready (i ∷ order) front done from to ordered =
      let e = ordered.0 in (
        let low = slice_get_within s.equations i e ordered.1 in let same = count in omega arith,
        λ c. true≢false (sym (to i c) ∙ ordered.2),
        λ it is.
            let r = rule_at i it is in
            let same : e ≡ r.at = let both = sym ordered.1 ∙ r.is in cc in
            subst (λ u. AllByRecursion (Contains front) (used_by u)) (ap rule_of same ∙ r.rule_is) (used_all (Contains front) e.op e.args (all_by (λ a. IsTrue (done a)) (Contains front) from (used_of e.op e.args) ordered.3)),
        order_ready order (front ++ i ∷ []) (with_one i done) (λ a h. elim (one_or_done i done a h) [
          | inl it ↦ subst (Contains (front ++ i ∷ [])) (sym it) (Contains-push front i)
          | inr old ↦ Contains-append_left front (i ∷ []) a (from a old)
        ]) (λ a c. elim (Contains-push_cases front i a c) [
          | inl old ↦ more_done i done a (to a old)
          | inr same ↦ ap (λ b. b || done a) (eq-eqb a i (sym same))
        ]) ordered.4,
      )

  pub order_from : (order : List ℕ) → IsRunOrder s order → IsOrder (rules_of s) order
  order_from order run = record {
    ready = order_ready order [] (λ i. false) (λ a h. absurd (false≢true h)) (λ a c. absurd (none_in_nil a c)) run.ordered;
    all = λ x low. Contains-in order x (run.all x (let same = count in omega arith));
  }
