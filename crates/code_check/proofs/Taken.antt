-- Code that is taken is whole.
use Rattle.std.proofs.Common.{◌≡◌, ℕ, List, Some, None, refl, sym, ◌∙◌, inl, inr}
use Rattle.std.specs.Prelude.{IsTrue, slice_get}
use Rattle.std.specs.List.{AllByRecursion, list_all}
use Rattle.std.proofs.lemmas.Bool.{cases_Bool, false≢true}
use Rattle.flat_core.specs.declared.equation.Equation.{Equation}
use Rattle.flat_core.specs.Members.{is_in}
use Rattle.flat_core.specs.TypedSystem.{IsTypedEquation}
use Rattle.register_code.specs.Code.{Code, IsCode}
use Rattle.equation_types.specs.Breaking.{BreaksTypes}
use Rattle.equation_types.specs.inner.Answer.{FitsAt}
use Rattle.equation_types.specs.inner.Arguments.{is_typed_among}
use Rattle.equation_types.proofs.Equations.{exactly_typed, proper_for, typed_for}
use Rattle.equation_types.proofs.TypedArguments.{all_pass, pass_all}
use Rattle.code_check.specs.Checked.{IsChecked}
use Rattle.code_check.specs.Read.{SpellCode}
use Rattle.code_check.proofs.Whole.{there, whole}

-- where no equation breaks types each fits
module _ (equations : List Equation) (running : List ℕ) (none : (i : ℕ) → BreaksTypes equations running i → ⊥) where
  typed_at : (i : ℕ) (e : Equation) → slice_get equations i ≡ Some e → IsTypedEquation equations e
  typed_at i e is = elim (cases_Bool (is_typed_among equations e)) [
    | inl typed ↦ (exactly_typed equations e (is_typed_among equations e) refl).0 typed
    | inr untyped ↦ absurd (none i (record {
      at = e;
      is = is;
      breaks = λ fits. false≢true (sym untyped ∙ (exactly_typed equations e (is_typed_among equations e) refl).1 fits.typed);
    }))
  ]

  run_at : (i : ℕ) (e : Equation) → slice_get equations i ≡ Some e → IsTrue (is_in running i) → AllByRecursion (λ a. IsTrue (is_in running a)) e.args
  run_at i e is runs = elim (cases_Bool (list_all (is_in running) e.args)) [
    | inl all ↦ all_pass (is_in running) e.args all
    | inr some ↦ absurd (none i (record {
      at = e;
      is = is;
      breaks = λ fits. false≢true (sym some ∙ pass_all (is_in running) e.args (fits.arguments_run runs));
    }))
  ]

  pub all_fit : (i : ℕ) → FitsAt equations running i
  all_fit i e is = record { typed = typed_at i e is; arguments_run = run_at i e is }

-- the code that bytes spell has, where it is checked, what all code has
pub taken_is_code : (bytes : List ℕ) (c : Code) → SpellCode bytes c → IsChecked c → IsCode c
taken_is_code bytes c spelled checked =
    let s = c.system in
    let fit = all_fit s.equations s.running checked.types.none_breaks in record {
      is_flat = whole c spelled.form spelled.bare (typed_for s.equations s.running None fit refl s refl) (proper_for s.equations s.running None fit refl s refl refl (there c spelled.form));
      fine = checked.fine;
    }
