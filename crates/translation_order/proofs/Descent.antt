-- Induction along a relation between finitely many numbers that has no cycle.
use Rattle.std.proofs.Common.{◌≡◌, ℕ, zero, suc, ◌+◌, ◌<◌, List, [], ◌∷◌, ◌++◌, length, eqb, Contains, inl, inr, subst, arith}
use Rattle.std.specs.List.{IsDistinct}
use Rattle.std.proofs.lemmas.List.{length_push}
use Rattle.std.proofs.lemmas.List.Elements.{Contains-push_cases}
use Rattle.translation_order.specs.Graph.{Path, edge, step, IsAcyclic}
use Rattle.translation_order.proofs.PathLemmas.{path_on}
use Rattle.tsl_value.proofs.Lists.{none_in_nil}
use Rattle.translation_order.proofs.Lists.{once_push, few_below}

once_none : IsDistinct eqb []
unfolding IsDistinct
once_none = tt

-- by the numbers from which one is reached, of which none is met twice
module _ (bound : ℕ) (E : ℕ → ℕ → Type 0) (acyclic : IsAcyclic E) (low : (a b : ℕ) → E a b → a < bound) (P : ℕ → Type 0) (next : (n : ℕ) → ((m : ℕ) → E n m → P m) → P n) where
  record Met (met : List ℕ) (n : ℕ) : Type 0 where
    once : IsDistinct eqb met
    within : (x : ℕ) → Contains met x → x < bound
    leads : (x : ℕ) → Contains met x → Path E x n

  met_more : (met : List ℕ) (n m : ℕ) → E n m → Met met n → Met (met ++ n ∷ []) m
  met_more met n m e h = record {
    once = once_push met n h.once (λ c. acyclic n (h.leads n c));
    within = λ x c. elim (Contains-push_cases met n x c) [ inl old ↦ h.within x old | inr same ↦ subst (λ y. y < bound) same (low n m e) ];
    leads = λ x c. elim (Contains-push_cases met n x c) [ inl old ↦ path_on (h.leads x old) e | inr same ↦ edge (subst (λ y. E y m) same e) ];
  }

  from_met : (fuel : ℕ) (met : List ℕ) (n : ℕ) → length met + fuel ≡ bound → Met met n → P n
  from_met zero met n room h = next n (λ m e.
      let more = met_more met n m e h in
      let few = few_below (met ++ n ∷ []) bound more.once more.within in
      let long = length_push met n in
      absurd (omega arith))
  from_met (suc fuel) met n room h = next n (λ m e.
      let long = length_push met n in
      from_met fuel (met ++ n ∷ []) m (omega arith) (met_more met n m e h))

  pub descend : (n : ℕ) → P n
  descend n = from_met bound [] n (omega arith) (record { once = once_none; within = λ x c. absurd (none_in_nil x c); leads = λ x c. absurd (none_in_nil x c) })

-- the same from the other end, below the bound
turned : {E : ℕ → ℕ → Type 0} {bound a b : ℕ} → Path (λ x y. E y x × (x < bound)) a b → Path E b a
turned (edge e) = edge e.0
turned (step e p) = path_on (turned p) e.0

pub ascend : (bound : ℕ) (E : ℕ → ℕ → Type 0) → IsAcyclic E → ((a b : ℕ) → E a b → a < bound) → (P : ℕ → Type 0) → ((n : ℕ) → ((m : ℕ) → E m n → P m) → P n) → (n : ℕ) → n < bound → P n
ascend bound E acyclic low P next n lt =
    descend bound (λ x y. E y x × (x < bound)) (λ a p. acyclic a (turned p)) (λ a b e. e.1) (λ k. k < bound → P k) (λ k before high. next k (λ m e. before m (e, high) (low m k e))) n lt
