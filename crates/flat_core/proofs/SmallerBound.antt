-- Below a smaller bound.
use Rattle.std.proofs.Common.{◌≡◌, ℕ, zero, suc, ◌<◌, ◌≤◌, Bool, true, false, List, [], ◌∷◌, ◌++◌, sym, ap, ◌∙◌, inl, inr, append_assoc, append-nil, arith}
use Rattle.std.specs.Prelude.{if◌then◌else◌}
use Rattle.std.specs.List.{AllByRecursion}
use Rattle.std.proofs.lemmas.Bool.{cases_lt}
use Rattle.flat_core.specs.Case.{Streams}
use Rattle.flat_core.specs.Events.{Inputs}
use Rattle.flat_core.specs.Line.{Line}
use Rattle.flat_core.specs.System.{System}
use Rattle.flat_core.specs.Solution.{Solves}
use Rattle.flat_core.specs.Instant.{is_instant, instants}
use Rattle.flat_core.proofs.Members.{all_append}
use Rattle.flat_core.proofs.Uniqueness.{all_by}

pub solves_less : (s : System) (inputs : Inputs) (low high : ℕ) (z : Streams) → low ≤ high → Solves s inputs high z → Solves s inputs low z
solves_less s inputs low high z le was = record { each = λ i e run is t lt. was.each i e run is t (omega arith) }

at_last : (low high : ℕ) → low ≤ high → (b : Bool) → AllByRecursion (λ t. (low ≤ t) × (t < suc high)) (if b then high ∷ [] else [])
at_last low high le true = ((le, omega arith), tt)
at_last low high le false = tt

pub instants_first : (s : System) (lines : List Line) (z : Streams) (low high : ℕ) → low ≤ high → (rest : List ℕ) × (instants s lines z high ≡ instants s lines z low ++ rest) × AllByRecursion (λ t. (low ≤ t) × (t < high)) rest
instants_first s lines z low zero le =
    let same : zero ≡ low = omega arith in
    ([], ap (instants s lines z) same ∙ sym (append-nil (instants s lines z low)), tt)
instants_first s lines z low (suc high) le = elim (cases_lt high low) [
  | inl end ↦
      let same : suc high ≡ low = omega arith in
      ([], ap (instants s lines z) same ∙ sym (append-nil (instants s lines z low)), tt)
  | inr more ↦
      let before = instants_first s lines z low high more in
      let last : List ℕ = if is_instant s lines z high then high ∷ [] else [] in
      let wider = all_by (λ t. (low ≤ t) × (t < high)) (λ t. (low ≤ t) × (t < suc high)) (λ t both. let lt = both.1 in (both.0, omega arith)) before.0 before.2 in
      (before.0 ++ last, ap (λ xs. xs ++ last) before.1 ∙ append_assoc (instants s lines z low) before.0 last, all_append (λ t. (low ≤ t) × (t < suc high)) before.0 last wider (at_last low high more (is_instant s lines z high)))
]
