-- The least order of the steps is one to run in.
use Rattle.std.proofs.Common.{ℕ, Bool, ◌||◌, false, List, [], ◌∷◌, ◌++◌, length, Contains, refl, sym, ap, subst, inl, inr, append_assoc, arith}
use Rattle.std.proofs.lemmas.Bool.{cases_Bool, eq-eqb, true≢false}
use Rattle.std.proofs.lemmas.Option.{slice_get_cases}
use Rattle.std.proofs.lemmas.List.Elements.{Contains-append_left, Contains-append_right, Contains-push_cases}
use Rattle.std.specs.Prelude.{IsTrue, IsFalse}
use Rattle.flat_core.specs.declared.equation.Op.{Op}
use Rattle.flat_core.specs.declared.equation.Op.TheVariants as op
use Rattle.flat_core.specs.Case.{used_of}
use Rattle.flat_core.specs.Complete.{IsFlat}
use Rattle.flat_core.specs.inner.Dependency.{with_one, IsOrdered, IsRunOrder}
use Rattle.flat_core.specs.System.{System}
use Rattle.flat_core.specs.WellFormed.{unguarded_of}
use Rattle.flat_core.proofs.Existence.{one_or_done, more_done}
use Rattle.flat_core.proofs.Members.{all_from, in-Contains}
use Rattle.translation_order.specs.Order.{Before, TakesLeast, IsLeastOrder}
use Rattle.tsl_value.proofs.Lists.{here, none_in_nil}
use Rattle.recursion_check.proofs.FeedLemmas.{pairs, from_feeds}

-- what is used at the same time is not guarded
used_unguarded : (o : Op) (args : List ℕ) (a : ℕ) → Contains (used_of o args) a → Contains (unguarded_of o args) a
used_unguarded op.Delay args a c = absurd (none_in_nil a c)
used_unguarded o args a c = c

module _ (s : System) (flat : IsFlat s) where
  abbrev Takes : List ℕ → Type 0
  Takes order = TakesLeast (length s.equations) (Before (pairs s flat)) order

  -- what is left of an order, where those that stand in front are done
  rest_ordered : (front rest : List ℕ) (done : ℕ → Bool) → ((a : ℕ) → Contains front a → IsTrue (done a)) → ((a : ℕ) → IsTrue (done a) → Contains front a) → Takes (front ++ rest) → IsOrdered s done rest
  rest_ordered front [] done to from takes = tt
  rest_ordered front (x ∷ rest) done to from takes =
      let follows = (takes front rest x refl).holds in
      let new : IsFalse (done x) = elim (cases_Bool (done x)) [
        | inl is ↦ absurd (follows.is_new (from x is))
        | inr not ↦ not
      ] in
      elim ((slice_get_cases s.equations x).1) [
        | inl found ↦ (
          found.0,
          found.2,
          new,
          all_from (λ a. IsTrue (done a)) (used_of found.0.op found.0.args) (λ a c. to a (follows.is_free a (from_feeds s flat a x (record { at = found.0; is = found.2; argument = used_unguarded found.0.op found.0.args a c })))),
          rest_ordered (front ++ x ∷ []) rest (with_one x done)
              (λ a c. elim (Contains-push_cases front x a c) [
                | inl old ↦ more_done x done a (to a old)
                | inr same ↦ ap (λ b. b || done a) (eq-eqb a x (sym same))
              ])
              (λ a h. elim (one_or_done x done a h) [
                | inl same ↦ subst (Contains (front ++ x ∷ [])) (sym same) (Contains-append_right front (x ∷ []) x (here x []))
                | inr old ↦ Contains-append_left front (x ∷ []) a (from a old)
              ])
              (subst Takes (sym (append_assoc front (x ∷ []) rest)) takes),
        )
        | inr beyond ↦ let low = follows.is_step in absurd (omega (arith, beyond.0))
      ]

  pub run_order_from : (order : List ℕ) → IsLeastOrder (length s.equations) (Before (pairs s flat)) order → IsRunOrder s order
  run_order_from order least = record {
    ordered = rest_ordered [] order (λ i. false) (λ a c. absurd (none_in_nil a c)) (λ a h. absurd (true≢false (sym h))) least.takes_least;
    all = λ i lt. in-Contains order i (least.all i lt);
  }
