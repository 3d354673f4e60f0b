-- Calls of value functions nest no deeper than there are items, since no function calls itself.
use Rattle.std.proofs.Common.{◌≡◌, ℕ, ◌<◌, false, List, [], ◌∷◌, length, eqb, sym, subst, arith}
use Rattle.std.specs.List.{AllByRecursion, IsDistinct}
use Rattle.std.proofs.lemmas.Bool.{ne_eqb}
use Rattle.std.proofs.lemmas.Map.Steps.{length-le_from_distinct_below}
use Rattle.std.proofs.lemmas.Map.Keys.{IsDistinct-cons}
use Rattle.translation_order.specs.Graph.{Path, edge}
use Rattle.translation_order.proofs.PathLemmas.{path_on}
use Rattle.flat_core.proofs.Uniqueness.{all_by}
use Rattle.tsl_value.proofs.Lists.{below_at}

module _ (E : ℕ → ℕ → Type 0) where
  -- numbers below n on a path to x, each once
  pub record LeadsTo (n : ℕ) (vs : List ℕ) (x : ℕ) : Type 0 where
    pub distinct : IsDistinct eqb vs
    pub below : AllByRecursion (λ v. v < n) vs
    pub reach : AllByRecursion (λ v. Path E v x) vs

  pub nothing_leads : (n x : ℕ) → LeadsTo n [] x
  unfolding IsDistinct
  nothing_leads n x = record { distinct = tt; below = tt; reach = tt }

  module _ (no_cycle : (x : ℕ) → Path E x x → ⊥) where
    -- x is none of them
    longer : (n : ℕ) (vs : List ℕ) (x : ℕ) → x < n → LeadsTo n vs x → IsDistinct eqb (x ∷ vs) × AllByRecursion (λ v. v < n) (x ∷ vs)
    longer n vs x low l =
        let fresh = all_by (λ v. Path E v x) (λ v. eqb x v ≡ false) (λ v p. ne_eqb x v (λ same. no_cycle x (subst (λ u. Path E u x) (sym same) p))) vs l.reach in
        (IsDistinct-cons eqb x vs fresh l.distinct, (low, l.below))

    pub onward : (n : ℕ) (vs : List ℕ) (x : ℕ) → x < n → LeadsTo n vs x → (a : ℕ) → E x a → LeadsTo n (x ∷ vs) a
    onward n vs x low l a first =
        let further = longer n vs x low l in
        record { distinct = further.0; below = further.1; reach = (edge first, all_by (λ v. Path E v x) (λ v. Path E v a) (λ v p. path_on p first) vs l.reach) }

    -- there are no more than n
    pub fewer : (n : ℕ) (vs : List ℕ) (x : ℕ) → x < n → LeadsTo n vs x → length vs < n
    fewer n vs x low l =
        let further = longer n vs x low l in
        let few = length-le_from_distinct_below (x ∷ vs) n further.0 (below_at n (x ∷ vs) further.1) in
        omega arith
