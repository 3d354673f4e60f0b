-- At a fault time a fault is named.
use Rattle.std.proofs.Common.{◌≡◌, ◌⊎◌, ℕ, zero, suc, ◌<◌, Bool, true, false, not, Option, Some, None, refl, sym, ap, subst, ◌∙◌, inl, inr, arith}
use Rattle.std.specs.Prelude.{IsTrue, is_some}
use Rattle.std.proofs.lemmas.Bool.{cases_lt, not-true, true≢false}
use Rattle.lift_func.specs.declared.fault.FaultKind.{FaultKind}
use Rattle.flat_core.specs.Case.{Streams}
use Rattle.flat_core.specs.Events.{Inputs}
use Rattle.flat_core.specs.Fault.{root_at, is_faulty, IsNamed}
use Rattle.flat_core.specs.System.{System, runs}
use Rattle.flat_core.proofs.Alike.{named_faulty}
use Rattle.flat_core.proofs.Members.{some_in}
use Rattle.flat_simplify.specs.inner.Solved.{IsFaultTime}

module _ (s : System) (inputs : Inputs) (z : Streams) (t : ℕ) where
  abbrev NoneBelow : ℕ → Type 0
  NoneBelow n = (j : ℕ) → IsTrue (runs s j) → j < n → root_at s inputs z t j ≡ None

  -- the least running equation with a root fault
  record IsLeast (i : ℕ) (kind : FaultKind) : Type 0 where
    running : IsTrue (runs s i)
    root : root_at s inputs z t i ≡ Some kind
    least : NoneBelow i

  one_more : (n : ℕ) → NoneBelow n → (b : Bool) → runs s n ≡ b → (root : Option FaultKind) → root_at s inputs z t n ≡ root → NoneBelow (suc n) ⊎ ((i : ℕ) × (kind : FaultKind) × IsLeast i kind)
  one_more n none true run (Some kind) is = inr (n, kind, record { running = run; root = is; least = none })
  one_more n none true run None is = inl (λ j run_j lt. elim (cases_lt j n) [
    | inl before ↦ none j run_j before
    | inr here ↦ let same : n ≡ j = omega arith in subst (λ i. root_at s inputs z t i ≡ None) same is
  ])
  one_more n none false idle root is = inl (λ j run_j lt. elim (cases_lt j n) [
    | inl before ↦ none j run_j before
    | inr here ↦ let same : j ≡ n = omega arith in absurd (true≢false (sym run_j ∙ ap (runs s) same ∙ idle))
  ])

  search_below : (n : ℕ) → NoneBelow n ⊎ ((i : ℕ) × (kind : FaultKind) × IsLeast i kind)
  search_below zero = inl (λ j run lt. absurd (omega arith))
  search_below (suc n) = elim (search_below n) [
    | inl none ↦ one_more n none (runs s n) refl (root_at s inputs z t n) refl
    | inr found ↦ inr found
  ]

  pub fault_named : IsFaultTime s inputs z t → (i : ℕ) × (kind : FaultKind) × IsNamed s inputs z t i kind
  fault_named at =
      let some = some_in (λ j. is_some (root_at s inputs z t j)) s.running at.0 in
      elim (search_below (suc some.0)) [
        | inl none ↦ absurd (true≢false (sym some.2 ∙ ap is_some (none some.0 some.1 (omega arith))))
        | inr found ↦ (found.0, found.1, record { running = found.2.running; root = found.2.root; least = found.2.least; first = λ v lt. ap not (at.1 v lt) })
      ]

  pub named_time : (i : ℕ) (kind : FaultKind) → IsNamed s inputs z t i kind → IsFaultTime s inputs z t
  named_time i kind named = (named_faulty s inputs z t i kind named, λ v lt. not-true (is_faulty s inputs z v) (named.first v lt))
