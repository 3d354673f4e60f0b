-- From the case and the root fault of the last equation to the stream that is made.
use Rattle.std.proofs.Common.{◌≡◌, ◌==◌, ℕ, zero, suc, ◌+◌, Bool, true, false, List, [], ◌∷◌, ◌++◌, length, Option, Some, None, Ok, refl, sym, ap, ◌∙◌, inl, inr, arith}
use Rattle.std.specs.Prelude.{slice_get, if◌then◌else◌}
use Rattle.std.proofs.lemmas.Bool.{cases_Bool, eqb-true, eqb-false, eq-eqb, ne_eqb}
use Rattle.std.proofs.lemmas.Option.{same_Some, none-some}
use Rattle.std.proofs.lemmas.List.{length_push}
use Rattle.tsl_value.specs.View.{View, Plain}
use Rattle.tsl_value.specs.declared.scalar.Scalar.{Scalar}
use Rattle.lift_func.specs.declared.fault.FaultKind.{FaultKind}
use Rattle.flat_core.specs.declared.equation.Equation.{Equation}
use Rattle.flat_core.specs.Case.{Streams, root_fault}
use Rattle.flat_core.specs.Events.{Inputs, fault_of}
use Rattle.stream_constructs.specs.declared.construct.Stream.{Stream}
use Rattle.stream_constructs.specs.Construct.{Construct, outcome, root}
use Rattle.stream_constructs.specs.Agree.{history_of, last_number, MakesStream}
use Rattle.stream_constructs.proofs.Numbered.{At, at_none, at_first, at_rest}

-- what is answered is no fault
pub no_root : (blocked : Bool) (v : Option View) → (if blocked then None else fault_of (Ok v)) ≡ None
no_root true v = refl
no_root false v = refl

-- nor is a literal
pub no_literal_root : (blocked there : Bool) (s : Scalar) → (if blocked then None else fault_of (if there then Ok (Some (Plain s)) else Ok None)) ≡ None
no_literal_root true there s = refl
no_literal_root false true s = refl
no_literal_root false false s = refl

pub last_of_push : (n : ℕ) (before : List Equation) (e : Equation) → last_number n (before ++ e ∷ []) ≡ n + length before
last_of_push n before e = let count = length_push before e in omega arith

module _ (inputs : Inputs) (z : Streams) (t : ℕ) where
  abbrev pub IsQuiet : ℕ → Equation → Type 0
  IsQuiet i e = root_fault inputs z i e t ≡ None

  -- of equations after each other all but the last are quiet
  roots : (n : ℕ) (before : List Equation) (e : Equation) (r : Option FaultKind) → At IsQuiet n before → root_fault inputs z (n + length before) e t ≡ r → (k : ℕ) (f : Equation) → slice_get (before ++ e ∷ []) k ≡ Some f → root_fault inputs z (n + k) f t ≡ (if suc k == suc (length before) then r else None)
  roots n [] e r quiet is zero f at = ap (λ g. root_fault inputs z (n + 0) g t) (sym (same_Some e f at)) ∙ is
  roots n [] e r quiet is (suc k) f at = absurd (none-some f at)
  roots n (b ∷ before) e r quiet is zero f at =
      let same : n + 0 ≡ n = omega arith in
      let apart : (1 == suc (suc (length before))) ≡ false = ne_eqb 1 (suc (suc (length before))) (λ h. absurd (omega arith)) in
      (λ k. root_fault inputs z (same k) (sym (same_Some b f at) k) t) ∙ at_first quiet ∙ (λ k. if sym apart k then r else None)
  roots n (b ∷ before) e r quiet is (suc k) f at =
      let one : n + suc k ≡ suc n + k = omega arith in
      let two : suc n + length before ≡ n + suc (length before) = omega arith in
      ap (λ i. root_fault inputs z i f t) one ∙ roots (suc n) before e r (at_rest quiet) (ap (λ i. root_fault inputs z i e t) two ∙ is) k f at ∙ ap (λ c. if c then r else None) (shifted k (length before))
    where
      shifted : (k m : ℕ) → (suc k == suc m) ≡ (suc (suc k) == suc (suc m))
      shifted k m = elim (cases_Bool (suc k == suc m)) [
        | inl is ↦ let same : suc k ≡ suc m = eqb-true (suc k) (suc m) is in is ∙ sym (eq-eqb (suc (suc k)) (suc (suc m)) (ap suc same))
        | inr is ↦ is ∙ sym (ne_eqb (suc (suc k)) (suc (suc m)) (λ h. let same : suc k ≡ suc m = omega arith in eqb-false (suc k) (suc m) is same))
      ]

  pub makes : (c : Construct) (n : ℕ) (parts : List Stream) (before : List Equation) (e : Equation) → At IsQuiet n before → z (n + length before) t ≡ outcome inputs c (history_of z parts) t → root_fault inputs z (n + length before) e t ≡ root inputs c (history_of z parts) t → MakesStream c (before ++ e ∷ []) n parts inputs z t
  makes c n parts before e quiet here fault = record {
    outcome_is = ap (λ i. z i t) (last_of_push n before e) ∙ here;
    root_is = λ k f at. roots n before e (root inputs c (history_of z parts) t) quiet fault k f at ∙ ap (λ m. if suc k == m then root inputs c (history_of z parts) t else None) (count before e);
  }
    where
      count : (before : List Equation) (e : Equation) → suc (length before) ≡ length (before ++ e ∷ [])
      count before e = let grown = length_push before e in omega arith

  -- an equation alone
  pub makes_one : (c : Construct) (n : ℕ) (parts : List Stream) (e : Equation) → z n t ≡ outcome inputs c (history_of z parts) t → root_fault inputs z n e t ≡ root inputs c (history_of z parts) t → MakesStream c (e ∷ []) n parts inputs z t
  makes_one c n parts e here fault =
      let same : n + 0 ≡ n = omega arith in
      makes c n parts [] e at_none (ap (λ i. z i t) same ∙ here) (ap (λ i. root_fault inputs z i e t) same ∙ fault)
