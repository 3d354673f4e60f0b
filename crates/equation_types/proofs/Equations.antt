-- Equations that have arity and types, and the first that has not.
use Rattle.std.proofs.Common.{◌≡◌, ℕ, ◌+◌, ◌<◌, ◌≤◌, Bool, false, List, length, Option, Some, None, refl, ap, sym, subst, ◌∙◌, inl, inr, arith}
use Rattle.std.specs.Prelude.{◌↔◌, IsTrue, MatchOption, slice_get}
use Rattle.std.specs.List.{AllByRecursion}
use Rattle.std.proofs.lemmas.Bool.{cases_lt, false≢true}
use Rattle.std.proofs.lemmas.Option.{same_Some, slice_get_within}
use Rattle.tsl_value.specs.declared.scalar.ValueType.{ValueType}
use Rattle.translation_order.specs.Least.{IsLeast}
use Rattle.flat_core.specs.declared.equation.Equation.{Equation}
use Rattle.flat_core.specs.Members.{is_in}
use Rattle.flat_core.specs.System.{System, IsProper}
use Rattle.flat_core.specs.TypedSystem.{IsTypedEquation, IsTypedSystem}
use Rattle.flat_core.proofs.Finished.{equation_there}
use Rattle.equation_types.specs.Breaking.{Fits, BreaksTypes}
use Rattle.equation_types.specs.inner.Answer.{FitsAt, IsFirstOrNone}
use Rattle.equation_types.specs.inner.Arguments.{types_at, is_typed_with, is_typed_among}
use Rattle.equation_types.proofs.Operations.{typed_from, typed_to}
use Rattle.equation_types.proofs.TypedArguments.{types_from, types_to}

module _ (equations : List Equation) where
  with_types : (e : Equation) (x : Option (List ValueType)) → types_at equations e.args ≡ x → IsTrue (is_typed_with e x) → IsTypedEquation equations e
  with_types e None at h = absurd (false≢true h)
  with_types e (Some types) at h = record { types = types; arguments = types_from equations e.args types at; typed = typed_from e.op types e.of h }

  pub exactly_typed : (e : Equation) (r : Bool) → r ≡ is_typed_among equations e → IsTrue r ↔ IsTypedEquation equations e
  exactly_typed e r is = (
    (λ h. with_types e (types_at equations e.args) refl (sym is ∙ h)),
    (λ typed. is ∙ ap (is_typed_with e) (types_to equations e.args typed.types typed.arguments) ∙ typed_to typed.typed),
  )

  module _ (running : List ℕ) where
    -- the equation of a number is one
    pub fits_one : (i : ℕ) (e : Equation) → slice_get equations i ≡ Some e → Fits equations running i e → FitsAt equations running i
    fits_one i e at fits f is = subst (Fits equations running i) (same_Some e f (sym at ∙ is)) fits

    pub fits_with : (i : ℕ) (e : Equation) → slice_get equations i ≡ Some e → IsTypedEquation equations e → (r : Bool) → IsTrue r ↔ (IsTrue (is_in running i) → AllByRecursion (λ a. IsTrue (is_in running a)) e.args) → IsTrue r ↔ FitsAt equations running i
    fits_with i e at typed r so =
        ((λ h. fits_one i e at (record { typed = typed; arguments_run = so.0 h })), (λ fit. so.1 (fit e at).arguments_run))

    pub not_fit : (i : ℕ) (e : Equation) → slice_get equations i ≡ Some e → (r : Bool) → r ≡ false → IsTrue r ↔ IsTypedEquation equations e → IsTrue false ↔ FitsAt equations running i
    not_fit i e at r is so = ((λ h. absurd (false≢true h)), (λ fit. absurd (false≢true (sym is ∙ so.1 (fit e at).typed))))

    -- ---- the loop
    abbrev pub FitBelow : ℕ → Type 0
    FitBelow n = (i : ℕ) → i < n → FitsAt equations running i

    pub fit_next : (n : ℕ) → FitBelow n → FitsAt equations running n → FitBelow (n + 1)
    fit_next n before here i low = elim (cases_lt i n) [
      | inl lt ↦ before i lt
      | inr high ↦ let same : i ≡ n = omega arith in subst (FitsAt equations running) (sym same) here
    ]

    pub all_fit : (n : ℕ) → length equations ≤ n → FitBelow n → (i : ℕ) → FitsAt equations running i
    all_fit n all below i e at = let low = slice_get_within equations i e at in below i (omega arith) e at

    pub first_breaks : (n : ℕ) → n < length equations → FitBelow n → (FitsAt equations running n → ⊥) → IsLeast (BreaksTypes equations running) n
    first_breaks n low below breaks =
        let here = equation_there equations n low in
        record {
          holds = record { at = here.0; is = here.1; breaks = λ fits. breaks (fits_one n here.0 here.1 fits) };
          least = λ y broken. elim (cases_lt y n) [ inl lt ↦ absurd (broken.breaks (below y lt broken.at broken.is)) | inr high ↦ high ];
        }

    -- ---- what the answer tells
    pub least_for : (r : Option ℕ) → IsFirstOrNone equations running r → MatchOption r ((i : ℕ) → BreaksTypes equations running i → ⊥) (IsLeast (BreaksTypes equations running))
    least_for None fit = λ i broken. broken.breaks (fit i broken.at broken.is)
    least_for (Some i) first = first

    pub typed_for : (r : Option ℕ) → IsFirstOrNone equations running r → r ≡ None → (s : System) → s.equations ≡ equations → IsTypedSystem s
    typed_for None fit none s same =
        record { each = λ i e at. subst (λ es. IsTypedEquation es e) (sym same) (fit i e (ap (λ es. slice_get es i) (sym same) ∙ at)).typed }
    typed_for (Some i) first none s same = absurd (cc)

    pub proper_for : (r : Option ℕ) → IsFirstOrNone equations running r → r ≡ None → (s : System) → s.equations ≡ equations → s.running ≡ running → ((i : ℕ) → IsTrue (is_in running i) → i < length equations) → IsProper s
    proper_for None fit none s same runs low =
        record {
          runs_all = λ i running_now.
              let inside : IsTrue (is_in running i) = subst (λ ids. IsTrue (is_in ids i)) runs running_now in
              let here = equation_there equations i (low i inside) in (
                here.0,
                ap (λ es. slice_get es i) same ∙ here.1,
                subst (λ ids. AllByRecursion (λ a. IsTrue (is_in ids a)) here.0.args) (sym runs) ((fit i here.0 here.1).arguments_run inside),
              );
        }
    proper_for (Some i) first none s same runs low = absurd (cc)
