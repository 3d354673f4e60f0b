-- What diagrams answer, over assignments.
use Rattle.std.proofs.Common.{◌≡◌, ℕ, ◌↔◌, Bool, List, Result, Ok, Err, sym, ap, subst, ◌∙◌}
use Rattle.std.specs.Prelude.{IfOk, IsTrue}
use mathlib.Core.Logic.Iff.{trans}
use Rattle.trigger_starts.specs.declared.rules.Rule.{Rule}
use Rattle.decision_diagrams.specs.declared.arena.Branch.{Branch}
use Rattle.decision_diagrams.specs.declared.join.Pair.{Pair}
use Rattle.decision_diagrams.specs.inner.DecisionTree.{Agree, Valuation, value}
use Rattle.decision_diagrams.specs.inner.Arena.{tree_at, AreCanonical, IsNode}
use Rattle.decision_diagrams.specs.inner.Join.{AreTogether, IsImplied}
use Rattle.trigger_diagram.specs.inner.Kept.{AreAlike, AreMetIn, Follows, Kept}
use Rattle.trigger_diagram.specs.inner.Truth.{truth, valuation_of}
use Rattle.decision_diagrams.proofs.DecisionTrees.{same_tree}
use Rattle.trigger_diagram.proofs.Truths.{assignment_of, truth_is, valuation_is}

-- the value of a node in a valuation
at_valuation : (bs : List Branch) (n : ℕ) (v : Valuation) → truth bs n (assignment_of v) ≡ value v (tree_at bs n)
at_valuation bs n v = truth_is bs n (assignment_of v) ∙ ap (λ w. value w (tree_at bs n)) (valuation_is v)

module _ (d : Kept) (p : Pair) where
  pub follows_is : IsImplied d.branches p ↔ Follows d p.first p.second
  follows_is = (
    λ implied holds first. truth_is d.branches p.second holds ∙ implied (valuation_of holds) (sym (truth_is d.branches p.first holds) ∙ first),
    λ follows v first. sym (at_valuation d.branches p.second v) ∙ follows (assignment_of v) (at_valuation d.branches p.first v ∙ first),
  )

  pub met_is : AreTogether d.branches p ↔ AreMetIn d p.first p.second
  met_is = (
    λ met. (assignment_of met.0, at_valuation d.branches p.first met.0 ∙ met.1, at_valuation d.branches p.second met.0 ∙ met.2),
    λ met. (valuation_of met.0, sym (truth_is d.branches p.first met.0) ∙ met.1, sym (truth_is d.branches p.second met.0) ∙ met.2),
  )

-- nodes that are alike are one
pub alike_is : (d : Kept) → AreCanonical d.branches → (m n : ℕ) → IsNode d.branches m → IsNode d.branches n → (m ≡ n) ↔ AreAlike d m n
alike_is d can m n node_m node_n = (
  λ same holds. ap (λ k. truth d.branches k holds) same,
  λ alike.
      let agree : Agree (tree_at d.branches m) (tree_at d.branches n) = λ v. sym (at_valuation d.branches m v) ∙ alike (assignment_of v) ∙ at_valuation d.branches n v in
      can.once m n node_m node_n (same_tree (tree_at d.branches m) (tree_at d.branches n) (can.canonical m node_m) (can.canonical n node_n) agree),
)

-- ---- answers
module _ {E : Type 0} (d : Kept) (rules : List Rule) (bs : List Branch) (a b m n : ℕ) (r : Result Bool E) (seen : record { rules = rules; branches = bs } ≡ d) (at_a : m ≡ a) (at_b : n ≡ b) where
  abbrev pair : Pair
  pair = record { first = m; second = n }

  abbrev view : Kept
  view = record { rules = rules; branches = bs }

  pub follows_told : IfOk r (λ t. IsTrue t ↔ IsImplied bs pair) → IfOk r (λ t. IsTrue t ↔ Follows d a b)
  follows_told exact = go r exact
    where
      go : (r : Result Bool E) → IfOk r (λ t. IsTrue t ↔ IsImplied bs pair) → IfOk r (λ t. IsTrue t ↔ Follows d a b)
      go (Ok t) exact =
          subst (λ k. IsTrue t ↔ Follows d a k) at_b (subst (λ k. IsTrue t ↔ Follows d k n) at_a (subst (λ (k : Kept). IsTrue t ↔ Follows k m n) seen (trans exact (follows_is view pair))))
      go (Err e) exact = tt

  pub met_told : IfOk r (λ t. IsTrue t ↔ AreTogether bs pair) → IfOk r (λ t. IsTrue t ↔ AreMetIn d a b)
  met_told exact = go r exact
    where
      go : (r : Result Bool E) → IfOk r (λ t. IsTrue t ↔ AreTogether bs pair) → IfOk r (λ t. IsTrue t ↔ AreMetIn d a b)
      go (Ok t) exact = subst (λ k. IsTrue t ↔ AreMetIn d a k) at_b (subst (λ k. IsTrue t ↔ AreMetIn d k n) at_a (subst (λ (k : Kept). IsTrue t ↔ AreMetIn k m n) seen (trans exact (met_is view pair))))
      go (Err e) exact = tt
