-- The least root fault.
use Rattle.std.proofs.Common.{◌≡◌, ◌==◌, ℕ, Bool, Option, Some, None, refl, sym, ap, subst, ◌∙◌, arith}
use Rattle.std.proofs.lemmas.Bool.{eq-eqb, eqb-true}
use Rattle.std.specs.Prelude.{IsTrue}
use Rattle.std.specs.Option.{option_map}
use Rattle.lift_func.specs.declared.fault.FaultKind.{FaultKind}
use Rattle.monitor_run.specs.declared.run.Root.{Root}
use Rattle.monitor_run.specs.inner.Instant.{IsLeastRoot}

pub least-same : (among other : ℕ → Bool) (at : ℕ → Option FaultKind) (r : Option Root) → ((i : ℕ) → among i ≡ other i) → IsLeastRoot among at r → IsLeastRoot other at r
least-same among other at r same = subst (λ (p : ℕ → Bool). IsLeastRoot p at r) (λ k i. same i k)

pub least-at : (among : ℕ → Bool) (at other : ℕ → Option FaultKind) (r : Option Root) → ((i : ℕ) → IsTrue (among i) → at i ≡ other i) → IsLeastRoot among at r → IsLeastRoot among other r
least-at among at other None same least = λ i h. sym (same i h) ∙ least i h
least-at among at other (Some r) same least = (least.0, sym (same r.equation least.0) ∙ least.1, λ i h lt. sym (same i h) ∙ least.2 i h lt)

-- of one number
pub least-one : (n : ℕ) (at : ℕ → Option FaultKind) (found : Option FaultKind) → at n ≡ found → IsLeastRoot (λ i. n == i) at (option_map (λ kind. record { equation = n; kind = kind }) found)
least-one n at None is = λ i h. ap at (sym (eqb-true n i h)) ∙ is
least-one n at (Some kind) is = (eq-eqb n n refl, is, λ i h lt. let same = eqb-true n i h in absurd (omega arith))
