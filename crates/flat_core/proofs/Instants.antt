-- The instants below a time.
use Rattle.std.proofs.Common.{◌≡◌, ℕ, zero, suc, ◌<◌, ◌≤◌, Bool, true, false, List, [], ◌∷◌, ◌++◌, Contains, refl, sym, subst, inl, inr, arith}
use Rattle.std.specs.Prelude.{if◌then◌else◌}
use Rattle.std.specs.List.{AllByRecursion}
use Rattle.std.proofs.lemmas.Bool.{cases_lt}
use Rattle.std.proofs.lemmas.List.Elements.{Contains-append_left, Contains-append_right, Contains-append_cases}
use Rattle.flat_core.specs.Case.{Streams}
use Rattle.flat_core.specs.Instant.{is_instant, instants}
use Rattle.flat_core.specs.Line.{Line}
use Rattle.flat_core.specs.System.{System}
use Rattle.flat_core.proofs.SmallerBound.{instants_first}
use Rattle.flat_core.proofs.Uniqueness.{all_by}

at_end : (n t : ℕ) (b : Bool) → Contains (if b then n ∷ [] else []) t → (n ≡ t) × (b ≡ true)
at_end n t true (zero, lt, is) = (is, refl)
at_end n t true (suc k, lt, is) = absurd (omega arith)
at_end n t false (k, lt, is) = absurd (omega arith)

module _ (s : System) (lines : List Line) (z : Streams) where
  pub in_instants : (n t : ℕ) → Contains (instants s lines z n) t → (t < n) × (is_instant s lines z t ≡ true)
  in_instants zero t (k, lt, is) = absurd (omega arith)
  in_instants (suc n) t c = elim (Contains-append_cases (instants s lines z n) (if is_instant s lines z n then n ∷ [] else []) t c) [
    | inl before ↦ let found = in_instants n t before in let lt = found.0 in (omega arith, found.1)
    | inr last ↦ let found = at_end n t (is_instant s lines z n) last in let same = found.0 in (omega arith, subst (λ u. is_instant s lines z u ≡ true) same found.1)
  ]

  pub instants_have : (n t : ℕ) → t < n → is_instant s lines z t ≡ true → Contains (instants s lines z n) t
  instants_have zero t lt h = absurd (omega arith)
  instants_have (suc n) t lt h = elim (cases_lt t n) [
    | inl before ↦ Contains-append_left (instants s lines z n) (if is_instant s lines z n then n ∷ [] else []) t (instants_have n t before h)
    | inr after ↦
        let same : t ≡ n = omega arith in
        let here : is_instant s lines z n ≡ true = subst (λ u. is_instant s lines z u ≡ true) same h in
        let alone : Contains (n ∷ []) t = (0, omega arith, sym same) in
        Contains-append_right (instants s lines z n) (if is_instant s lines z n then n ∷ [] else []) t (subst (λ b. Contains (if b then n ∷ [] else []) t) (sym here) alone)
  ]

  pub instants_below : (n : ℕ) → AllByRecursion (λ t. t < n) (instants s lines z n)
  instants_below n =
      let first = instants_first s lines z 0 n (omega arith) in
      subst (AllByRecursion (λ t. t < n)) (sym first.1) (all_by (λ t. (0 ≤ t) × (t < n)) (λ t. t < n) (λ t both. both.1) first.0 first.2)
