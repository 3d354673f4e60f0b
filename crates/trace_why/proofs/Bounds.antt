-- How a run ends below a smaller bound than the one up to which it is known.
use Rattle.std.proofs.Common.{◌≡◌, ℕ, zero, suc, ◌<◌, ◌≤◌, false, List, [], ◌∷◌, ◌++◌, Some, Contains, take, slice_get, inl, inr, sym, ◌∙◌, ap, subst, arith}
use Rattle.std.specs.List.{AllByRecursion}
use Rattle.std.specs.Prelude.{IsFalse}
use Rattle.std.proofs.Math.Bool.{true≢false}
use Rattle.lift_func.specs.declared.fault.FaultKind.{FaultKind}
use Rattle.flat_core.specs.inner.BoundLaws.{HappensAlike}
use Rattle.flat_core.specs.Case.{Streams}
use Rattle.flat_core.specs.Complete.{IsFlat}
use Rattle.flat_core.specs.Ending.{EndsInFault, EndsAtLimit, EndsAtBound}
use Rattle.flat_core.specs.Fault.{is_faulty}
use Rattle.flat_core.specs.Instant.{instants}
use Rattle.flat_core.specs.Line.{Line, inputs_of}
use Rattle.flat_core.specs.Solution.{Solves}
use Rattle.flat_core.specs.System.{System}
use Rattle.flat_core.specs.WellFormed.{IsWellFormed}
use Rattle.flat_core.proofs.Alike.{named_faulty, one_named}
use Rattle.flat_core.proofs.Instants.{instants_below}
use Rattle.flat_core.proofs.Members.{all_at}
use Rattle.flat_core.proofs.SameMeaning.{happens_alike}
use Rattle.flat_core.proofs.SmallerBound.{instants_first, solves_less}
use Rattle.flat_core.proofs.Uniqueness.{agree_before, all_by}
use Rattle.flat_core.proofs.WellFormedRank.{rank_of, well_formed_ranked}
use Rattle.trace_monitor.proofs.Ends.{bound_alike, fault_alike, fault_grows, limit_alike, limit_grows}
use Rattle.tsl_value.proofs.Lists.{all_by_place, all_take, cons_cases, contains_at, here, later, take_append}

-- ---- lists of which the rest is late
module _ (low : ℕ) (ys : List ℕ) (late : AllByRecursion (λ u. low ≤ u) ys) where
  -- what is early among the first stands before the rest
  pub among_early : (n t : ℕ) (xs : List ℕ) → t < low → Contains (take n (xs ++ ys)) t → Contains (take n xs) t
  among_early zero t xs lt at = at
  among_early (suc n) t [] lt at = let le = all_at (λ u. low ≤ u) (take (suc n) ys) (all_take (λ u. low ≤ u) (suc n) ys late) t at in absurd (omega arith)
  among_early (suc n) t (x ∷ xs) lt at = elim (cons_cases x t (take n (xs ++ ys)) at) [
    | inl same ↦ subst (λ y. Contains (y ∷ take n xs) t) (sym same) (here t (take n xs))
    | inr rest ↦ later x t (take n xs) (among_early n t xs lt rest)
  ]

  pub place_early : (n t : ℕ) (xs : List ℕ) → t < low → slice_get (xs ++ ys) n ≡ Some t → slice_get xs n ≡ Some t
  place_early n t [] lt at = let le = all_by_place (λ u. low ≤ u) ys late n t at in absurd (omega arith)
  place_early zero t (x ∷ xs) lt at = at
  place_early (suc n) t (x ∷ xs) lt at = place_early n t xs lt at

all_first : (P : ℕ → Type 0) (xs ys : List ℕ) → AllByRecursion P (xs ++ ys) → AllByRecursion P xs
all_first P [] ys all = tt
all_first P (x ∷ xs) ys all = (all.0, all_first P xs ys all.1)

-- ---- streams that solve a system below one bound, and others that solve it below a smaller one
module _ (s : System) (whole : IsFlat s) (formed : IsWellFormed s) (lines : List Line) (low high limit : ℕ) (le : low ≤ high) (z w : Streams) (zs : Solves s (inputs_of lines) high z) (ws : Solves s (inputs_of lines) low w) where
  alike : HappensAlike s low lines z lines w
  alike = happens_alike s low z w whole.proper
      (λ i run t lt. agree_before s (inputs_of lines) (rank_of s formed) whole.proper (well_formed_ranked s formed) low z w (solves_less s (inputs_of lines) low high z le zs) ws low (omega arith) i run t lt) lines

  rest : (more : List ℕ) × (instants s lines z high ≡ instants s lines z low ++ more) × AllByRecursion (λ t. (low ≤ t) × (t < high)) more
  rest = instants_first s lines z low high le

  late : AllByRecursion (λ u. low ≤ u) rest.0
  late = all_by (λ t. (low ≤ t) × (t < high)) (λ u. low ≤ u) (λ u both. both.0) rest.0 rest.2

  first_early : (t : ℕ) → Contains (take limit (instants s lines z low)) t → t < low
  first_early t at = all_at (λ u. u < low) (take limit (instants s lines z low)) (all_take (λ u. u < low) limit (instants s lines z low) (instants_below s lines z low)) t at

  next_early : (t : ℕ) → slice_get (instants s lines z low) limit ≡ Some t → t < low
  next_early t at = all_at (λ u. u < low) (instants s lines z low) (instants_below s lines z low) t (contains_at (instants s lines z low) limit t at)

  pub quiet_below : EndsAtBound s lines z high limit → EndsAtBound s lines w low limit
  quiet_below ends = bound_alike s low limit lines lines z w alike record {
    no_fault = λ t i kind early. ends.no_fault t i kind (fault_grows s lines z low high limit le t i kind early).0;
    no_limit = λ t early. ends.no_limit t (limit_grows s lines z low high limit le t early).0;
  }

  pub fault_below : (t i : ℕ) (kind : FaultKind) → t < low → EndsInFault s lines z high limit t i kind → EndsInFault s lines w low limit t i kind
  fault_below t i kind lt ends = fault_alike s low limit lines lines z w alike t i kind record {
    named = ends.named;
    within = among_early low rest.0 late limit t (instants s lines z low) lt (subst (λ (l : List ℕ). Contains (take limit l) t) rest.1 ends.within);
  }

  pub limit_below : (t : ℕ) → t < low → EndsAtLimit s lines z high limit t → EndsAtLimit s lines w low limit t
  limit_below t lt ends =
      let more = take_append limit (instants s lines z low) rest.0 in
      limit_alike s low limit lines lines z w alike t record {
        next = place_early low rest.0 late limit t (instants s lines z low) lt (subst (λ (l : List ℕ). slice_get l limit ≡ Some t) rest.1 ends.next);
        sound = all_first (λ u. IsFalse (is_faulty s (inputs_of lines) z u)) (take limit (instants s lines z low)) more.0
            (subst (λ (l : List ℕ). AllByRecursion (λ u. IsFalse (is_faulty s (inputs_of lines) z u)) l) (ap (take limit) rest.1 ∙ more.1) ends.sound);
      }

  -- a fault among the first instants, and none among them
  never_both : (t i : ℕ) (kind : FaultKind) → EndsInFault s lines z high limit t i kind → (u : ℕ) → EndsAtLimit s lines z high limit u → ⊥
  never_both t i kind fault u ends = true≢false
      (sym (named_faulty s (inputs_of lines) z t i kind fault.named)
      ∙ all_at (λ v. is_faulty s (inputs_of lines) z v ≡ false) (take limit (instants s lines z high)) ends.sound t fault.within)

  pub quiet_before_fault : (t i : ℕ) (kind : FaultKind) → low ≤ t → EndsInFault s lines z high limit t i kind → EndsAtBound s lines w low limit
  quiet_before_fault t i kind far ends = bound_alike s low limit lines lines z w alike record {
    no_fault = λ u j other early.
        let same = (one_named s (inputs_of lines) z u t j i other kind early.named ends.named).0 in
        let lt = first_early u early.within in
        absurd (omega arith);
    no_limit = λ u early. never_both t i kind ends u (limit_grows s lines z low high limit le u early).0;
  }

  pub quiet_before_limit : (t : ℕ) → low ≤ t → EndsAtLimit s lines z high limit t → EndsAtBound s lines w low limit
  quiet_before_limit t far ends = bound_alike s low limit lines lines z w alike record {
    no_fault = λ u j other early. never_both u j other (fault_grows s lines z low high limit le u j other early).0 t ends;
    no_limit = λ u early.
        let grown = (limit_grows s lines z low high limit le u early).0.next in
        let is = ends.next in
        let same : u ≡ t = cc in
        let lt = next_early u early.next in
        absurd (omega arith);
  }
